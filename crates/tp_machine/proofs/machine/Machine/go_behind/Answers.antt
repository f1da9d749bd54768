use Rattle.std.proofs.Common.{refl}
use Rattle.tp_machine.proofs.Step.Items.{rest-follows}
use Rattle.tp_machine.proofs.Step.Called.{goes_behind}
use Rattle.tp_machine.proofs.machine.Machine.go_behind.Goals as goal

pub returns : goal.returns
returns c = goes_behind c.args.self.now c.args.task c.args._call (record c.args.self.now.state { items = c.args.task.rest }) c.requires.back c.requires.call (rest-follows c.args.self.now.state c.args.task.rest) refl
