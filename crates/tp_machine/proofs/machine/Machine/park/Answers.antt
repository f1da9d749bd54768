use Rattle.std.proofs.Common.{◌<◌, length, sym, subst}
use Rattle.tp_meaning.specs.declared.goals.ProcessGoal.TheVariants.{Wait}
use Rattle.tp_state.specs.declared.state.State.{State}
use Rattle.tp_state.specs.Plain.{Plain}
use Rattle.tp_state.proofs.GoingBack.Follows.{follows-then}
use Rattle.tp_machine.specs.Enters.{Enters}
use Rattle.tp_machine.proofs.Step.Acting.{first_there}
use Rattle.tp_machine.proofs.Step.First.{process_there}
use Rattle.tp_machine.proofs.Step.Items.{rest-follows}
use Rattle.tp_machine.proofs.Step.Waiting.{not_refused, parks}
use Rattle.tp_machine.proofs.machine.Machine.park.Goals as goal

pub enter-requires : goal.enter-requires
enter-requires c = record { goal = first_there c.args.self.now c.args.task c.args.call Wait c.requires.call }

pub unreachable-requires : goal.unreachable-requires
unreachable-requires c =
    let m = c.args.self.now in
    not_refused m c.args.task c.args.call c.requires.call c.in_default.field-0 c.enter.new.state.store c.requires.back
    (subst (λ r. Enters m.atoms m.state.store c.args.call.first r c.enter.new.state.store) c.in_default.is
    (c.in_ok-place.ensures.entered m.atoms c.requires.back.machine.program.table c.requires.back.machine.stands.atoms))

pub leave-requires : goal.leave-requires
leave-requires c =
    let m = c.args.self.now in
    subst (λ (x : Plain). c.args.task.process < length x.procs) (sym c.in_ok-push.ensures.plain)
    (subst (λ (x : State). c.args.task.process < length x.procs) (sym c.in_ok-place.ensures.same)
    (process_there m c.args.task.process c.requires.call.meets.standing c.requires.call.meets.running))

pub returns-clause-done : goal.returns-clause-done
returns-clause-done c =
    let m = c.args.self.now in
    let r = c.in_ok-place.ensures in
    let entered = subst (λ r. Enters m.atoms m.state.store c.args.call.first r c.enter.new.state.store) c.in-Goal.is (r.entered m.atoms c.requires.back.machine.program.table c.requires.back.machine.stands.atoms) in
    let on = follows-then _ _ _ (rest-follows c.enter.new.state c.args.task.rest) c.in_ok-push.ensures.follows in
    parks m c.args.task c.args.call c.requires.call c.enter.new.state c.push.new.self c.leave.new.self c.mark_others.new.self c.in-Goal.place c.requires.back r.same r.store entered
    c.in_ok-push.ensures.plain c.in_ok-leave.ensures.plain c.in_ok-mark_others.ensures.plain on
    (follows-then _ _ _ r.follows (follows-then _ _ _ on (follows-then _ _ _ c.in_ok-leave.ensures.follows c.in_ok-mark_others.ensures.follows)))
