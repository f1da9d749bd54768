use Rattle.std.proofs.Common.{w64}
use Rattle.std.proofs.lemmas.Int.{to_z-of_z}
use Rattle.std.specs.Str.{chars}
use Rattle.tp_terms.proofs.Texts.Added.{Adds-as}
use Rattle.tp_report.proofs.AnswerLines.Pieces.{clock-pieces}
use Rattle.tp_report.proofs.answer.add_clock.Goals as goal

pub returns : goal.returns
unfolding chars
returns c = record {
  added =
      Adds-as c.add_pieces.result c.args.out.now c.add_pieces.new.out _ _
      (clock-pieces _ c.args.clock c.args.steps (to_z-of_z w64 c.args.clock c.ranges.clock)) c.add_pieces.ensures.added;
}
