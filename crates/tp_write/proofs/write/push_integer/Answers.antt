use Rattle.std.proofs.Common.{◌≡◌, ◌∙◌, rules}
use Rattle.std.proofs.lemmas.Str.{chars-IsAscii}
use Rattle.std.specs.Fmt.{signed_decimal}
use Rattle.tp_terms.proofs.Texts.Added.{Adds-as}
use Rattle.tp_write.proofs.write.push_integer.Goals as goal

pub returns : goal.returns
returns c =
    let same : c.format.result.now ≡ signed_decimal c.args.value = search rules in
    let text = chars-IsAscii c.format.result.now c.format.ensures.ascii ∙ same in
    record { added = Adds-as c.push_text.result c.args.out.now c.push_text.new.out _ _ text c.push_text.ensures.added }
