use Rattle.std.proofs.Common.{◌∙◌}
use Rattle.std.proofs.lemmas.Str.{chars-IsAscii}
use Rattle.tp_terms.proofs.Texts.Added.{Adds-as}
use Rattle.tp_write.proofs.write.push_number.Goals as goal

pub returns : goal.returns
returns c =
    let same = chars-IsAscii c.format.result.now c.format.ensures.ascii ∙ c.format.ensures.text in
    record { added = Adds-as c.push_text.result c.args.out.now c.push_text.new.out _ _ same c.push_text.ensures.added }
