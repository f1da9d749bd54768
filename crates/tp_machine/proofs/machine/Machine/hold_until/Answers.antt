use Rattle.std.proofs.Common.{◌≡◌, ◌<◌, ◌^◌, ◌-◌, length, sym, subst, SFits, w64, rules}
use Rattle.std.proofs.lemmas.Int.{to_z-of_z}
use Rattle.tp_terms.specs.declared.world.EventKind.TheVariants.{Hold}
use Rattle.tp_calendar.specs.Order.{IsFree}
use Rattle.tp_state.specs.Acts.{noted, planned, resting, slot_at}
use Rattle.tp_state.specs.Plain.{Plain}
use Rattle.tp_state.specs.State.{plain_of}
use Rattle.tp_state.proofs.GoingBack.Follows.{follows-then}
use Rattle.tp_machine.proofs.Step.First.{process_there}
use Rattle.tp_machine.proofs.Step.Holding.{few-insertions, free-entry, holds}
use Rattle.tp_machine.proofs.Step.Items.{rest-follows}
use Rattle.tp_machine.proofs.machine.Machine.hold_until.Goals as goal

pub plan-requires-clause-free : goal.plan-requires-clause-free
plan-requires-clause-free c =
    let m = c.args.self.now in
    let pid = c.args.task.process in
    let until : SFits w64 c.args.time = search rules in
    subst (λ z. IsFree (slot_at pid z (plain_of c.note.new.self)) c.note.new.self.calendar.slots) (sym (to_z-of_z w64 c.args.time until))
    (subst (λ (x : Plain). IsFree (slot_at pid c.args.time x) x.slots) (sym c.in_ok-note.ensures.plain)
    (free-entry m c.args.task c.requires.machine c.requires.delays.calls.meets pid c.args.time))

pub plan-requires-clause-few : goal.plan-requires-clause-few
plan-requires-clause-few c =
    let m = c.args.self.now in
    subst (λ (x : Plain). x.insertion < 2 ^ 64 - 1) (sym c.in_ok-note.ensures.plain) (few-insertions m c.args.task c.requires.machine c.requires.delays.calls.meets)

pub leave-requires : goal.leave-requires
leave-requires c =
    let m = c.args.self.now in
    subst (λ (x : Plain). c.args.task.process < length x.procs) (sym c.in_ok-plan.ensures.plain)
    (subst (λ (x : Plain). c.args.task.process < length x.procs) (sym c.in_ok-note.ensures.plain)
    (process_there m c.args.task.process c.requires.delays.calls.meets.standing c.requires.delays.calls.meets.running))

pub returns-clause-done : goal.returns-clause-done
returns-clause-done c =
    let m = c.args.self.now in
    let pid = c.args.task.process in
    let lasts : SFits w64 c.args.duration = search rules in
    let until : SFits w64 c.args.time = search rules in
    let noted_is = subst (λ z. plain_of c.note.new.self ≡ noted pid (Hold z) (resting c.args.task.rest (plain_of m.state))) (to_z-of_z w64 c.args.duration lasts) c.in_ok-note.ensures.plain in
    let planned_is = subst (λ z. plain_of c.plan.new.self ≡ planned pid z (plain_of c.note.new.self)) (to_z-of_z w64 c.args.time until) c.in_ok-plan.ensures.plain in
    holds m c.args.task c.args._call c.args.duration c.args.time c.requires.machine c.requires.delays
    c.note.new.self c.plan.new.self c.leave.new.self c.mark_others.new.self noted_is planned_is c.in_ok-leave.ensures.plain c.in_ok-mark_others.ensures.plain
    (follows-then _ _ _ (rest-follows m.state c.args.task.rest) (follows-then _ _ _ c.in_ok-note.ensures.follows
    (follows-then _ _ _ c.in_ok-plan.ensures.follows (follows-then _ _ _ c.in_ok-leave.ensures.follows c.in_ok-mark_others.ensures.follows))))
