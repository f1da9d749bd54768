use Rattle.tp_state.proofs.GoingBack.Follows.{follows-then}
use Rattle.tp_machine.proofs.Step.Awaiting.{awaits}
use Rattle.tp_machine.proofs.Step.First.{process_there}
use Rattle.tp_machine.proofs.machine.Machine.await_mail.Goals as goal

pub leave-requires : goal.leave-requires
leave-requires c = process_there c.args.self.now c.args.task.process c.requires.none.calls.meets.standing c.requires.none.calls.meets.running

pub returns-clause-done : goal.returns-clause-done
returns-clause-done c =
    awaits c.args.self.now c.args.task c.args._call c.requires.machine c.requires.none c.leave.new.self c.mark_others.new.self c.in_ok-leave.ensures.plain c.in_ok-mark_others.ensures.plain
    (follows-then _ _ _ c.in_ok-leave.ensures.follows c.in_ok-mark_others.ensures.follows)
