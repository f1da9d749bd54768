use Rattle.std.proofs.Common.{◌≡◌, ◌∙◌, sym, ap, subst}
use Rattle.tp_calendar.specs.Order.{put_slot, without_slot, IsFree, IsOrdered, Contents}
use Rattle.tp_calendar.proofs.PutBack.{ordered-put, without-put}
use Rattle.tp_calendar.proofs.Calendar.put.Goals as goal

pub invariant_of-self-2 : goal.invariant_of-self-2
invariant_of-self-2 c =
    let fs = c.self.inside.slots.items in
    let free = subst (IsFree c.args.slot) (sym (ap (λ (v : Contents). v.slots) c.self.view_is)) c.requires in
    let put : c.put_within.new.slots.items ≡ put_slot c.args.slot fs = c.put_within.ensures.slots ∙ ap (put_slot c.args.slot) c.in_ok-reserve.ensures.items in
    subst IsOrdered (sym put) (ordered-put c.args.slot fs free c.self.invariant)

pub returns-clause-inverse : goal.returns-clause-inverse
returns-clause-inverse c =
    let fs = c.self.inside.slots.items in
    let was : fs ≡ c.args.self.now.slots = ap (λ (v : Contents). v.slots) c.self.view_is in
    let put : c.put_within.new.slots.items ≡ put_slot c.args.slot fs = c.put_within.ensures.slots ∙ ap (put_slot c.args.slot) c.in_ok-reserve.ensures.items in
    ap (without_slot c.args.slot) put ∙ without-put c.args.slot fs (subst (IsFree c.args.slot) (sym was) c.requires) ∙ was
