use Rattle.tp_machine.proofs.Step.Acting.{tells_name}
use Rattle.tp_machine.proofs.Step.First.{process_there}
use Rattle.tp_machine.proofs.machine.Machine.tell_name.Goals as goal

pub name_of-requires : goal.name_of-requires
name_of-requires c = process_there c.args.self.now c.args.task.process c.requires.call.meets.standing c.requires.call.meets.running

pub tell-requires-clause-tells : goal.tell-requires-clause-tells
tell-requires-clause-tells c = tells_name c.args.self.now c.args.task c.args.call c.name_of.result c.requires.machine c.requires.call c.name_of.ensures
