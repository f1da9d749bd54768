use Rattle.std.proofs.Common.{◌+◌, refl}
use Rattle.tp_machine.proofs.Step.Receiving.{next_process, next_refused}
use Rattle.tp_machine.proofs.machine.Machine.element.Goals as goal

pub returns-in-Ok : goal.returns-in-Ok
returns-in-Ok c = next_process c.args.self.now c.args._list c.args._at c.requires.list c.args.first (record { at = c.args.first.at + 1 }) refl c.requires.first c.requires.at c.in-Ok.process c.in-Ok.ensures

pub returns-in-Err : goal.returns-in-Err
returns-in-Err c = next_refused c.args.self.now c.args._list c.args._at c.requires.list c.args.first (record { at = c.args.first.at + 1 }) refl c.requires.first c.requires.at c.in-Err.why c.in-Err.ensures
