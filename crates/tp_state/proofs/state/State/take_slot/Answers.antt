use Rattle.std.proofs.Common.{◌≡◌, ◌<◌, ◌++◌, ◌∷◌, [], length, IfSome, subst}
use Rattle.tp_terms.specs.declared.world.Slot.{Slot}
use Rattle.tp_log.specs.declared.entry.Entry.TheVariants.{Took}
use Rattle.tp_calendar.specs.Order.{put_slot, IsFree}
use Rattle.tp_state.specs.State.{held_of}
use Rattle.tp_state.proofs.Changes.{slot-follows}
use Rattle.tp_state.proofs.state.State.take_slot.Goals as goal

pub returns-clause-follows : goal.returns-clause-follows
returns-clause-follows c =
    let e = c.in_ok-slot.ensures in
    let new = c.take_first.new in
    slot-follows (held_of c.args.self.now) c.in-Some.slot new.self.slots new.log _ new.self.room
    (subst (λ r. IfSome r (λ (s : Slot). new.log ≡ c.args.self.now.log ++ Took s ∷ [])) c.in-Some.is e.log)
    (subst (λ r. IfSome r (λ (s : Slot). put_slot s new.self.slots ≡ c.args.self.now.calendar.slots)) c.in-Some.is e.inverse)
    (subst (λ r. IfSome r (λ (s : Slot). IsFree s new.self.slots)) c.in-Some.is e.free)
    (subst (λ r. IfSome r (λ (s : Slot). length new.self.slots < new.self.room)) c.in-Some.is e.within)
    c.take_first.ensures.room
