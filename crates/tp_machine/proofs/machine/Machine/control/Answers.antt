use Rattle.std.proofs.Common.{subst}
use Rattle.std.specs.Prelude.{Some}
use Rattle.tp_meaning.specs.declared.goals.GoalKind.TheVariants.{Control}
use Rattle.tp_machine.specs.Meets.{Calls}
use Rattle.tp_machine.proofs.Step.Control.{fails}
use Rattle.tp_machine.proofs.machine.Machine.control.Goals as goal

pub returns-in-Fail-clause-done : goal.returns-in-Fail-clause-done
returns-in-Fail-clause-done c = fails c.args.self.now c.args.task c.args.call c.requires.machine (subst (λ g. Calls c.args.self.now c.args.task c.args.call (Some (Control g))) c.in-Fail.is c.requires.call)
