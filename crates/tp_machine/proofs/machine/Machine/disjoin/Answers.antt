use Rattle.tp_machine.proofs.Step.Sides.{first_there}
use Rattle.tp_machine.proofs.machine.Machine.disjoin.Goals as goal

pub parts_of-requires-clause-goal : goal.parts_of-requires-clause-goal
parts_of-requires-clause-goal c = first_there c.args.self.now c.args.task c.args.call c.requires.call
