use Rattle.std.proofs.Common.{◌≡◌, ◌<◌, ◌^◌, ◌-◌, sym, subst, SFits, w64, rules}
use Rattle.std.proofs.lemmas.Int.{to_z-of_z}
use Rattle.tp_terms.specs.declared.world.EventKind.TheVariants.{New}
use Rattle.tp_calendar.specs.Order.{IsFree}
use Rattle.tp_state.specs.Acts.{noted, planned, slot_at}
use Rattle.tp_state.specs.Plain.{Plain}
use Rattle.tp_state.specs.State.{plain_of}
use Rattle.tp_state.proofs.GoingBack.Follows.{follows-then}
use Rattle.tp_machine.proofs.Step.Holding.{few-insertions, free-entry}
use Rattle.tp_machine.proofs.Step.Items.{rest-follows}
use Rattle.tp_machine.proofs.Step.Making.{makes}
use Rattle.tp_machine.proofs.machine.Machine.make_with.Goals as goal

pub make_process-requires : goal.make_process-requires
make_process-requires c = c.requires.goal.end.start.named.free

pub plan-requires-clause-free : goal.plan-requires-clause-free
plan-requires-clause-free c =
    let m = c.args.self.now in
    let start : SFits w64 c.args.wanted.start = search rules in
    subst (λ z. IsFree (slot_at c.in_ok-pid.pid z (plain_of c.make_process.new.self)) c.make_process.new.self.calendar.slots) (sym (to_z-of_z w64 c.args.wanted.start start))
    (subst (λ (x : Plain). IsFree (slot_at c.in_ok-pid.pid c.args.wanted.start x) x.slots) (sym c.in_ok-pid.ensures.plain)
    (free-entry m c.args.task c.requires.machine c.requires.goal.end.start.named.calls.meets c.in_ok-pid.pid c.args.wanted.start))

pub plan-requires-clause-few : goal.plan-requires-clause-few
plan-requires-clause-few c =
    let m = c.args.self.now in
    subst (λ (x : Plain). x.insertion < 2 ^ 64 - 1) (sym c.in_ok-pid.ensures.plain) (few-insertions m c.args.task c.requires.machine c.requires.goal.end.start.named.calls.meets)

pub returns-clause-done : goal.returns-clause-done
returns-clause-done c =
    let m = c.args.self.now in
    let start : SFits w64 c.args.wanted.start = search rules in
    let planned_is = subst (λ z. plain_of c.plan.new.self ≡ planned c.in_ok-pid.pid z (plain_of c.make_process.new.self)) (to_z-of_z w64 c.args.wanted.start start) c.in_ok-plan.ensures.plain in
    let noted_is = subst (λ z. plain_of c.note.new.self ≡ noted c.args.task.process (New c.args.wanted.name z c.args.wanted.end) (plain_of c.plan.new.self)) (to_z-of_z w64 c.args.wanted.start start) c.in_ok-note.ensures.plain in
    makes m c.args.task c.args._call c.args.wanted c.args.goal c.requires.machine c.requires.goal
    c.make_process.new.self c.plan.new.self c.note.new.self c.in_ok-pid.pid c.in_ok-pid.ensures.pid c.in_ok-pid.ensures.plain planned_is noted_is
    (follows-then _ _ _ (rest-follows m.state c.args.task.rest) (follows-then _ _ _ c.in_ok-pid.ensures.follows
    (follows-then _ _ _ c.in_ok-plan.ensures.follows c.in_ok-note.ensures.follows)))
