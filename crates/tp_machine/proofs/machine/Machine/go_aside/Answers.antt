use Rattle.std.proofs.Common.{arith}
use Rattle.tp_state.proofs.GoingBack.Follows.{follows-then}
use Rattle.tp_machine.proofs.Step.Items.{rest-follows}
use Rattle.tp_machine.proofs.Step.Sides.{goes_aside, two_sides}
use Rattle.tp_machine.proofs.machine.Machine.go_aside.Goals as goal

pub argument-second-requires : goal.argument-second-requires
argument-second-requires c = omega (arith, two_sides c.args.self.now c.args.task c.args.call c.requires.call, c.requires.call.call.within)

pub returns-clause-done : goal.returns-clause-done
returns-clause-done c =
    goes_aside c.args.self.now c.args.task c.args.call c.requires.call c.push.new.self c.argument-second.result c.requires.back c.argument-second.ensures
    (follows-then _ _ _ (rest-follows c.args.self.now.state c.args.task.rest) c.in_ok-push.ensures.follows) c.in_ok-push.ensures.plain
