use Rattle.tp_machine.proofs.Step.Schedule.{runs_marked, marked_there}
use Rattle.tp_machine.proofs.machine.Machine.run_marked.Goals as goal

pub run-requires : goal.run-requires
run-requires c = marked_there c.args.self.now c.requires.idle c.args.process c.requires.first

pub returns-clause-done : goal.returns-clause-done
returns-clause-done c = runs_marked c.args.self.now c.requires.idle c.run.new.self c.args.process c.requires.first c.in_ok-run.ensures.plain c.in_ok-run.ensures.follows
