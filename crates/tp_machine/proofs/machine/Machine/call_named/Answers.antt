use Rattle.tp_machine.proofs.Enters.Calling.{too_many}
use Rattle.tp_machine.proofs.machine.Machine.call_named.Goals as goal

pub raise-requires-clause-cause : goal.raise-requires-clause-cause
raise-requires-clause-cause c = too_many c.args.self.now c.args.task c.args.call c.requires.call c.args.goal c.requires.more c.requires.goal c.if-goal-call-gt256.true
