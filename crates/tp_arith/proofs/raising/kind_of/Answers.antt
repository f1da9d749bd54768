use Rattle.std.proofs.Common.{sym, subst}
use Rattle.tp_terms.specs.declared.cells.Cell.TheVariants as cell
use Rattle.tp_terms.specs.declared.symbols.TheConstants.{INSTANTIATION_ERROR}
use Rattle.tp_meaning.specs.Heap.{Makes}
use Rattle.tp_arith.specs.Errors.{fault_kind}
use Rattle.tp_arith.proofs.Evaluation.Kinds.{unbound-made}
use Rattle.tp_arith.proofs.raising.kind_of.Goals as goal

pub returns-in-Unbound-clause-made : goal.returns-in-Unbound-clause-made
returns-in-Unbound-clause-made g c =
    let h = g.T.Terms.heap c.args.terms.now in
    subst (λ f. Makes h h (cell.Atom INSTANTIATION_ERROR) (fault_kind h.names f)) (sym c.in-Unbound.is) (unbound-made h c.requires.heap)
