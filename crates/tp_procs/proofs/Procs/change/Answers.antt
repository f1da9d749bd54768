use Rattle.std.proofs.Common.{◌≡◌, ◌∙◌, ◌<◌, sym, ap, subst, length, drop, Some, IfSome, slice_get, slice_set, arith}
use Rattle.std.proofs.lemmas.List.{length-set}
use Rattle.std.proofs.lemmas.Option.{slice_get-get_or}
use Rattle.tp_procs.proofs.Kept.{indexed-set}
use Rattle.tp_procs.proofs.Mended.{tree-lent}
use Rattle.tp_procs.proofs.Procs.change.Goals as goal

pub invariant_of-self : goal.invariant_of-self
invariant_of-self c =
    let ps = c.self.inside.procs.items in
    let ns = c.self.inside.nodes.items in
    let old = c.index.result.now in
    let within : c.args.pid < length ps = omega (arith, ap length c.self.view_is, c.requires.pid) in
    let here : slice_get ps c.args.pid ≡ Some old = slice_get-get_or ps c.args.pid old within ∙ ap Some (sym c.index.ensures) in
    let name = subst (λ o. IfSome o (λ p. p.name ≡ c.args.proc.name)) (ap (λ l. slice_get l c.args.pid) (sym c.self.view_is) ∙ here) c.requires.name in
    let long : c.self.inside.nodes.len ≡ length (slice_set ps c.args.pid c.args.proc) =
    sym c.deref_mut.ensures.len ∙ ap length c.deref_mut.ensures.value ∙ c.self.invariant.tree.long ∙ sym (length-set ps c.args.pid c.args.proc) in
    let tree = tree-lent (slice_set ps c.args.pid c.args.proc) c.deref.result.now c.mend.new.nodes (drop (length c.mend.new.nodes) ns) c.self.inside.nodes.len c.mend.ensures c.deref.ensures.value long in
    rw (c.live_in.ensures, c.live_in-2.ensures)
    (indexed-set ps c.self.inside.names.keys ns _ c.self.inside.live c.args.pid old c.args.proc c.self.invariant here name tree)
