use Rattle.tp_build.proofs.RowAnswers.Heaps.{does-copy}
use Rattle.tp_build.proofs.unification.copy_term.Goals as goal

pub returns-clause-does : goal.returns-clause-does
returns-clause-does g c =
    does-copy (g.T.Terms.heap c.args.terms.now) (g.T.Terms.heap c.copy.new.self) (g.T.Terms.heap c.unify.new.terms) c.args.t.at c.args.c.at c.in_ok-copy.copy.at c.in_ok-outcome.outcome c.in_ok-copy.ensures.copied c.requires.c c.in_ok-outcome.ensures.does
