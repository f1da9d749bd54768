use Rattle.tp_terms.proofs.Naming.Start.{start-within}
use Rattle.std.proofs.Common.{arith}
use Rattle.tp_build.proofs.RowAnswers.Functor.{pair-shown}
use Rattle.tp_build.proofs.functors.pair.Goals as goal

pub compound_of_two-requires-clause-name : goal.compound_of_two-requires-clause-name
compound_of_two-requires-clause-name g c = start-within (g.T.Terms.heap c.args.terms.now).names c.requires.heap.table 0 (omega arith)

pub returns-clause-shown : goal.returns-clause-shown
returns-clause-shown g c =
    pair-shown (g.T.Terms.heap c.args.terms.now) (g.T.Terms.heap c.compound_of_two.new.terms) (g.T.Terms.heap c.place.new.self) c.in_ok-compound.compound c.args.left c.args.right c.in_ok-at.at.at c.in_ok-compound.ensures.made c.in_ok-at.ensures.value c.in_ok-at.ensures.place
