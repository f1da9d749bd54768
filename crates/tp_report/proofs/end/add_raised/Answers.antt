use Rattle.std.proofs.Common.{w64}
use Rattle.std.proofs.lemmas.Int.{to_z-of_z}
use Rattle.std.specs.Str.{chars}
use Rattle.tp_terms.proofs.Texts.Added.{Adds-as}
use Rattle.tp_report.proofs.LastLine.Pieces.{raised-pieces}
use Rattle.tp_report.proofs.end.add_raised.Goals as goal

pub returns : goal.returns
unfolding chars
returns c = record {
  added =
      Adds-as c.add_pieces.result c.args.out.now c.add_pieces.new.out _ _
      (raised-pieces (chars c.as_str.result.now) c.args.term.now _ c.args.clock c.args.steps c.as_str.ensures.chars (to_z-of_z w64 c.args.clock c.ranges.clock)) c.add_pieces.ensures.added;
}
