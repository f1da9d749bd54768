use Rattle.tp_state.proofs.GoingBack.Follows.{follows-then}
use Rattle.tp_machine.proofs.Step.Acting.{notes}
use Rattle.tp_machine.proofs.Step.Items.{rest-follows}
use Rattle.tp_machine.proofs.machine.Machine.note.Goals as goal

pub returns-clause-done : goal.returns-clause-done
returns-clause-done c =
    notes c.args.self.now c.args.task c.args.call c.note.new.self c.requires.machine c.requires.call
    (follows-then _ _ _ (rest-follows c.args.self.now.state c.args.task.rest) c.in_ok-note.ensures.follows) c.in_ok-note.ensures.plain
