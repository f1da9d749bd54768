use Rattle.std.proofs.Common.{subst}
use Rattle.tp_machine.specs.Meets.{IsCurrent}
use Rattle.tp_machine.proofs.Step.Seconds.{waits}
use Rattle.tp_machine.proofs.machine.Machine.resume_second.Goals as goal

pub go_on_waiting-requires-clause-again : goal.go_on_waiting-requires-clause-again
go_on_waiting-requires-clause-again c = waits c.args.self.now c.in-Some.process c.requires c.in-Some.is (subst (IsCurrent c.args.self.now) c.in-None.is c.current.ensures)
