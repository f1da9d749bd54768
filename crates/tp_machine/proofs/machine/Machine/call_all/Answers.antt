use Rattle.tp_machine.proofs.Enters.Calling.{calls_alone}
use Rattle.tp_machine.proofs.machine.Machine.call_all.Goals as goal

pub call_goal-requires-clause-calls : goal.call_goal-requires-clause-calls
call_goal-requires-clause-calls c = calls_alone c.args.self.now c.args.task c.args.call c.requires.call c.if-call-eq1.true
