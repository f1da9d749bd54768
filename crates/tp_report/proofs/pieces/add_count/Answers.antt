use Rattle.std.proofs.Common.{◌∙◌}
use Rattle.std.proofs.lemmas.Str.{chars-IsAscii}
use Rattle.tp_terms.proofs.Texts.Added.{Adds-as}
use Rattle.tp_report.proofs.pieces.add_count.Goals as goal

pub returns : goal.returns
returns c = record {
  added =
      Adds-as c.push_text.result c.args.out.now c.push_text.new.out _ _
      (chars-IsAscii c.format.result.now c.format.ensures.ascii ∙ c.format.ensures.text) c.push_text.ensures.added;
}
