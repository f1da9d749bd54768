use Rattle.std.proofs.Common.{refl}
use Rattle.tp_machine.proofs.Step.Control.{succeeds}
use Rattle.tp_machine.proofs.Step.Items.{rest-follows}
use Rattle.tp_machine.proofs.machine.Machine.succeed.Goals as goal

pub returns : goal.returns
returns c = succeeds c.args.self.now c.args.task c.args._call c.requires.machine (record c.args.self.now.state { items = c.args.task.rest }) c.requires.call (rest-follows c.args.self.now.state c.args.task.rest) refl
