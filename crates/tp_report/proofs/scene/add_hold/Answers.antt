use Rattle.std.proofs.Common.{w64}
use Rattle.std.proofs.lemmas.Int.{to_z-of_z}
use Rattle.std.specs.Str.{chars}
use Rattle.tp_terms.proofs.Texts.Added.{Adds-as}
use Rattle.tp_report.proofs.AnswerLines.Pieces.{hold-pieces}
use Rattle.tp_report.proofs.scene.add_hold.Goals as goal

pub returns : goal.returns
unfolding chars
returns c = record {
  added =
      Adds-as c.add_pieces.result c.args.out.now c.add_pieces.new.out _ _
      (hold-pieces _ c.args.duration (to_z-of_z w64 c.args.duration c.ranges.duration)) c.add_pieces.ensures.added;
}
