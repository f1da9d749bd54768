use Rattle.std.proofs.Common.{arith}
use Rattle.tp_state.proofs.GoingBack.Follows.{follows-then}
use Rattle.tp_machine.proofs.Step.Items.{rest-follows}
use Rattle.tp_machine.proofs.Step.Control.{joins, two}
use Rattle.tp_machine.proofs.machine.Machine.conjoin.Goals as goal

pub argument-second-requires : goal.argument-second-requires
argument-second-requires c = omega (arith, two c.args.self.now c.args.task c.args.call c.requires.machine c.requires.call, c.requires.call.call.within)

pub returns-clause-done : goal.returns-clause-done
returns-clause-done c =
    joins c.args.self.now c.args.task c.args.call c.requires.machine c.push.new.self c.push-2.new.self c.argument-second.result c.requires.call c.argument-second.ensures
    (follows-then _ _ _ (rest-follows c.args.self.now.state c.args.task.rest) (follows-then _ _ _ c.in_ok-push.ensures.follows c.in_ok-push-2.ensures.follows)) c.in_ok-push.ensures.plain c.in_ok-push-2.ensures.plain
