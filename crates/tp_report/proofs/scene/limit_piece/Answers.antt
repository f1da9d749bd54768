use Rattle.std.proofs.Common.{ap, sym}
use Rattle.std.specs.Str.{chars}
use Rattle.tp_report.specs.Report.{limit_text}
use Rattle.tp_report.proofs.scene.limit_piece.Goals as goal

pub returns-in-Inf : goal.returns-in-Inf
unfolding chars
returns-in-Inf c =
    ap limit_text (sym c.in-Inf.is)
