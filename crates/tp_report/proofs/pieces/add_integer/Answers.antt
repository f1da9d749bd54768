use Rattle.std.proofs.Common.{ap, ◌∙◌, w64}
use Rattle.std.specs.Fmt.{signed_decimal}
use Rattle.std.proofs.lemmas.Int.{to_z-of_z}
use Rattle.std.proofs.lemmas.Str.{chars-IsAscii}
use Rattle.tp_terms.proofs.Texts.Added.{Adds-as}
use Rattle.tp_report.proofs.pieces.add_integer.Goals as goal

pub returns : goal.returns
returns c = record {
  added =
      Adds-as c.push_text.result c.args.out.now c.push_text.new.out _ _
      (chars-IsAscii c.format.result.now c.format.ensures.ascii ∙ c.format.ensures.text ∙ ap signed_decimal (to_z-of_z w64 c.args.value c.ranges.value)) c.push_text.ensures.added;
}
