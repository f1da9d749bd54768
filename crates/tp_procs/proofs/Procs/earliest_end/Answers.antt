use Rattle.std.proofs.Common.{◌≡◌, ◌∙◌, sym, ap, Some, slice_get}
use Rattle.std.proofs.lemmas.Option.{get_or_from_slice_get}
use Rattle.tp_procs.specs.declared.tree.Node.{Node}
use Rattle.tp_procs.specs.Processes.{earliest}
use Rattle.tp_procs.specs.Tree.{nothing}
use Rattle.tp_procs.proofs.FirstNode.{first-end}
use Rattle.tp_procs.proofs.Procs.earliest_end.Goals as goal

pub returns : goal.returns
returns c =
    let ns = c.self.inside.nodes.items in
    let node = c.in_ok-first.field-0.now in
    let there : slice_get ns 0 ≡ Some node = ap (λ l. slice_get l 0) (sym c.deref.ensures.value) ∙ sym c.in_ok-first.ensures.value in
    ap (λ (n : Node). n.end) (sym (get_or_from_slice_get ns 0 node nothing there))
    ∙ first-end c.self.inside.procs.items ns c.self.invariant.tree
    ∙ ap (earliest) c.self.view_is
