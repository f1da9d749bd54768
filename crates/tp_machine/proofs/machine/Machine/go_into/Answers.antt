use Rattle.tp_state.proofs.GoingBack.Follows.{follows-then}
use Rattle.tp_machine.proofs.Step.Items.{rest-follows}
use Rattle.tp_machine.proofs.Enters.Calling.{calls_goal}
use Rattle.tp_machine.proofs.machine.Machine.go_into.Goals as goal

pub returns-clause-done : goal.returns-clause-done
returns-clause-done c =
    calls_goal c.args.self.now c.args.task c.args._call c.push.new.self c.args.place c.requires.machine c.requires.stands
    (follows-then _ _ _ (rest-follows c.args.self.now.state c.args.task.rest) c.in_ok-push.ensures.follows) c.in_ok-push.ensures.plain
