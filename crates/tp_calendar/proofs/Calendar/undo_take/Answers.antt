use Rattle.std.proofs.Common.{subst, sym, ap}
use Rattle.tp_calendar.specs.Order.{IsFree, IsOrdered, Contents}
use Rattle.tp_calendar.proofs.PutBack.{ordered-put}
use Rattle.tp_calendar.proofs.Calendar.undo_take.Goals as goal

pub invariant_of-self : goal.invariant_of-self
invariant_of-self c =
    let free = subst (IsFree c.args.slot) (sym (ap (λ (v : Contents). v.slots) c.self.view_is)) c.requires.free in
    subst IsOrdered (sym c.put_within.ensures.slots) (ordered-put c.args.slot c.self.inside.slots.items free c.self.invariant)
