use Rattle.std.proofs.Common.{◌+◌, ap, ◌∙◌}
use Rattle.tp_control.specs.declared.frames.Item.TheVariants.{Goal}
use Rattle.tp_state.specs.Acts.{pushed}
use Rattle.tp_state.proofs.GoingBack.Follows.{follows-then}
use Rattle.tp_machine.proofs.Step.Items.{rest-follows}
use Rattle.tp_machine.proofs.Step.Called.{calls_once}
use Rattle.tp_machine.proofs.machine.Machine.go_into_once.Goals as goal

pub returns-clause-done : goal.returns-clause-done
returns-clause-done c =
    calls_once c.args.self.now c.args.task c.args._call c.push-2.new.self c.args.place c.requires.machine c.requires.stands
    (follows-then _ _ _ (rest-follows c.args.self.now.state c.args.task.rest) (follows-then _ _ _ c.in_ok-push.ensures.follows c.in_ok-push-2.ensures.follows))
    (c.in_ok-push-2.ensures.plain ∙ ap (pushed (Goal c.args.place (c.args.self.now.stamp + 1))) c.in_ok-push.ensures.plain)
