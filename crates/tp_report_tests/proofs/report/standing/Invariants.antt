use Rattle.std.specs.List.{AllByRecursion}
use Rattle.tp_terms.specs.Events.{EventStands}
use Rattle.tp_report_tests.proofs.report.standing.Given as goal

abbrev pub invariant-loop-event : goal.invariant-loop-event
invariant-loop-event l = AllByRecursion (EventStands l.names l.cells l.processes) l.history
