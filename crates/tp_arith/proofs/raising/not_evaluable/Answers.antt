use Rattle.std.proofs.Common.{arith}
use Rattle.tp_terms.specs.declared.symbols.TheConstants.{EVALUABLE, SLASH, TYPE_ERROR}
use Rattle.tp_terms.proofs.Naming.Start.{start-within}
use Rattle.tp_arith.proofs.Evaluation.Kinds.{not_evaluable-made, start-stands}
use Rattle.tp_arith.proofs.raising.not_evaluable.Goals as goal

pub compound_of_two-requires-clause-name : goal.compound_of_two-requires-clause-name
compound_of_two-requires-clause-name g c = start-within (g.T.Terms.heap c.args.terms.now).names c.requires.heap.table SLASH.at (omega arith)

pub compound_of_two-requires-2-clause-name : goal.compound_of_two-requires-2-clause-name
compound_of_two-requires-2-clause-name g c = start-within (g.T.Terms.heap c.compound_of_two.new.terms).names c.in_ok-indicator.ensures.heap.table TYPE_ERROR.at (omega arith)

pub compound_of_two-requires-2-clause-left : goal.compound_of_two-requires-2-clause-left
compound_of_two-requires-2-clause-left g c = start-stands (g.T.Terms.heap c.compound_of_two.new.terms) c.in_ok-indicator.ensures.heap EVALUABLE (omega arith)

pub returns-clause-made : goal.returns-clause-made
returns-clause-made g c =
    not_evaluable-made (g.T.Terms.heap c.args.terms.now) (g.T.Terms.heap c.compound_of_two.new.terms) (g.T.Terms.heap c.compound_of_two-2.new.terms) c.in_ok-indicator.indicator c.in_ok-kind.kind c.number.result c.args.name c.args.count
    c.requires.heap c.in_ok-indicator.ensures.heap c.number.ensures c.in_ok-indicator.ensures.made c.in_ok-kind.ensures.made
