use Rattle.tp_machine.proofs.GoesBack.Forgotten.{steps_on}
use Rattle.tp_machine.proofs.machine.Machine.step.Goals as goal

pub returns-clause-stepped : goal.returns-clause-stepped
returns-clause-stepped c = steps_on c.args.self.now c.act.new.self c.forget.new.self c.in_ok-stepped.stepped c.in_ok-stepped.ensures.stepped c.forget.ensures
