use Rattle.std.proofs.Common.{◌<◌, length, take}
use Rattle.std.specs.List.{AllByRecursion}
use Rattle.tp_report_tests.proofs.report.are_names.Given as goal

abbrev pub invariant-loop-name : goal.invariant-loop-name
invariant-loop-name l = AllByRecursion (λ a. a.at < length l.atoms) (take l.name-index l.names)
