use Rattle.tp_arith.proofs.Evaluation.Kinds.{kind-placed}
use Rattle.tp_arith.proofs.raising.place_kind.Goals as goal

pub returns-clause-raised : goal.returns-clause-raised
returns-clause-raised g c =
    kind-placed (g.T.Terms.heap c.args.terms.now) (g.T.Terms.heap c.kind_of.new.terms) (g.T.Terms.heap c.place.new.self) c.in_ok-kind.kind c.args.fault c.in_ok-at.at c.in_ok-kind.ensures.made c.in_ok-at.ensures.value c.in_ok-at.ensures.place
