use Rattle.std.proofs.Common.{◌≤◌, ◌-◌}
use Rattle.tp_engine.specs.Run.{IsRun}
use Rattle.tp_engine.proofs.run.search.Given as goal

abbrev pub invariant-turns : goal.invariant-turns
invariant-turns g l = record {
  run : IsRun g.A.Answers.takes l.fn.machine l.wanted l.fn.answers l.machine l.tally l.answers;
  within : l.tally.steps ≤ l.budget;
  falls : g.A.Answers.faults l.fn.answers ≤ g.A.Answers.faults l.answers;
}

abbrev pub decreases-turns : goal.decreases-turns
decreases-turns g l = l.budget - l.tally.steps
