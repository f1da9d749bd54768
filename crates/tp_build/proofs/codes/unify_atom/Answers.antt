use Rattle.tp_build.proofs.RowAnswers.Codes.{atom-does}
use Rattle.tp_build.proofs.codes.unify_atom.Goals as goal

pub returns-clause-does : goal.returns-clause-does
returns-clause-does g c =
    atom-does (g.T.Terms.heap c.args.terms.now) (g.T.Terms.heap c.intern.new.self) (g.T.Terms.heap c.place.new.self) (g.T.Terms.heap c.unify.new.terms) c.args.atom.at c.in_ok-name.name _ c.in_ok-at.at.at c.unify.result c.requires.heap c.in_ok-name.ensures.value c.in_ok-name.ensures.place c.in_ok-at.ensures.value c.in_ok-at.ensures.place c.requires.atom c.unify.ensures.does
