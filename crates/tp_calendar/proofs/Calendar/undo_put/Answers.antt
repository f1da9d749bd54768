use Rattle.std.proofs.Common.{subst, sym}
use Rattle.tp_calendar.specs.Order.{IsOrdered}
use Rattle.tp_calendar.proofs.PutBack.{ordered-without}
use Rattle.tp_calendar.proofs.Calendar.undo_put.Goals as goal

pub invariant_of-self : goal.invariant_of-self
invariant_of-self c =
    subst IsOrdered (sym c.remove_slot.ensures.slots) (ordered-without c.args.slot c.self.inside.slots.items c.self.invariant)
