use Rattle.tp_machine.proofs.Step.Seconds.{control_of, neither, wait_of}
use Rattle.tp_machine.proofs.machine.Machine.choose_by.Goals as goal

pub second_of-requires-clause-chooses : goal.second_of-requires-clause-chooses
second_of-requires-clause-chooses c = control_of c.args.self.now c.args.task c.args.call c.args.kind c.in-Control.goal c.in-Control.is c.requires.chooses

pub park-requires-clause-call : goal.park-requires-clause-call
park-requires-clause-call c = wait_of c.args.self.now c.args.task c.args.call c.args.kind c.in-Process.field-0 c.in-Process.is c.requires.chooses

pub unreachable-requires : goal.unreachable-requires
unreachable-requires c = neither c.args.self.now c.args.task c.args.call c.args.kind c.in_default.not-Control c.in_default.not-Process c.requires.chooses
