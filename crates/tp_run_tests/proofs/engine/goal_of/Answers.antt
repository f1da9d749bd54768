use Rattle.tp_engine.proofs.GoalsRead.{goal-fits, read-fits}
use Rattle.tp_run_tests.proofs.engine.goal_of.Goals as goal

pub returns-in-Ok-clause-fits : goal.returns-in-Ok-clause-fits
returns-in-Ok-clause-fits c =
    let told = c.in-Ok.ensures.read in
    read-fits c.read_goal.new.atoms c.in-Ok.goal told.0 told.2 (goal-fits _ c.args.text.now told.0 told.1)
