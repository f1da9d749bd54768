use Rattle.std.proofs.Common.{ap, sym, subst, ◌≤◌, length}
use Rattle.tp_store.specs.Contents.{Contents, IsStore, cut_to_mark}
use Rattle.tp_store.proofs.Standing.Facts.{can-go-back}
use Rattle.tp_state.specs.Plain.{Plain}
use Rattle.tp_state.proofs.state.State.rewind.Goals as goal

pub back_to-requires : goal.back_to-requires
back_to-requires c =
    let m = c.args.marks.now in
    let same = ap (λ (p : Plain). p.store) c.undo_above.ensures.plain in
    can-go-back c.undo_above.new.self.store m.store
    (subst (λ (x : Contents). m.store.cells ≤ length x.cells) (sym same) c.requires.within.cells)
    (subst (λ (x : Contents). m.store.vars ≤ x.vars) (sym same) c.requires.within.vars)
    (subst IsStore (ap (λ (x : Contents). cut_to_mark x m.store) (sym same)) c.requires.store)
