use Rattle.tp_build.proofs.Words.{raised}
use Rattle.tp_build.proofs.errors.raise.Goals as goal

pub returns-clause-does : goal.returns-clause-does
returns-clause-does g c =
    raised (g.T.Terms.heap c.args.terms.now) (g.T.Terms.heap c.kind_of.new.terms) (g.T.Terms.heap c.place.new.self) c.in_ok-kind.kind c.args.fault c.in_ok-at.at c.in_ok-kind.ensures.made c.in_ok-at.ensures.value c.in_ok-at.ensures.place
