use Rattle.std.proofs.Common.{pos, [], ◌∷◌}
use Rattle.tp_terms.specs.declared.cells.Cell.TheVariants as cell
use Rattle.tp_report_tests.proofs.Owed.{Fits-one}
use Rattle.tp_report_tests.proofs.report.answer.Goals as goal

pub answer_text-requires-clause-fits : goal.answer_text-requires-clause-fits
answer_text-requires-clause-fits c = Fits-one (pos 1) (cell.Var 1 ∷ []) _ c.in_ok-cells.ensures
