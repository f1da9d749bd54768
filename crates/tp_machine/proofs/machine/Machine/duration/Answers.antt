use Rattle.tp_meaning.specs.declared.goals.ProcessGoal.TheVariants.{Hold}
use Rattle.tp_machine.proofs.Gives.Times.{grew_program, grew_rests, on_err}
use Rattle.tp_machine.proofs.Step.Acting.{first_there}
use Rattle.tp_machine.proofs.Step.Holding.{duration_given}
use Rattle.tp_machine.proofs.machine.Machine.duration.Goals as goal

pub time_at-requires-clause-place : goal.time_at-requires-clause-place
time_at-requires-clause-place c = first_there c.args.self.now c.args._task c.args.call Hold c.requires.call

pub returns-clause-rests : goal.returns-clause-rests
returns-clause-rests c = grew_rests c.args.self.now c.time_at.new.self c.requires.machine c.time_at.ensures.grew

pub returns-clause-duration : goal.returns-clause-duration
returns-clause-duration c =
    duration_given c.args.self.now c.time_at.new.self c.args._task c.args.call c.in_ok-given.given c.requires.machine c.time_at.ensures.grew c.requires.call c.in_ok-given.ensures.time

pub returns-in_err-given-clause-program : goal.returns-in_err-given-clause-program
returns-in_err-given-clause-program c = on_err _ (grew_program c.args.self.now c.time_at.new.self c.requires.machine c.time_at.ensures.grew) c.from_residual.result
