use Rattle.tp_machine.proofs.Step.Parts.{keeps}
use Rattle.tp_machine.proofs.machine.Machine.keep.Goals as goal

pub returns-clause-done : goal.returns-clause-done
returns-clause-done c = keeps c.args.self.now c.args.next c.push.new.self c.marks-marks.result c.requires c.marks-marks.ensures c.in_ok-push.ensures.added
