use Rattle.std.proofs.Common.{rules, ◌≡◌, false}
use Rattle.tp_words.specs.Number.{begins_with_plus}
use Rattle.tp_words.proofs.ReadsWords.Numerals.{number_read}
use Rattle.tp_words.proofs.number.number_in.Goals as goal

pub returns : goal.returns
returns c =
    let none : begins_with_plus c.args.text.now ≡ false = search rules in
    number_read c.args.least c.args.most c.args.text.now c.parse.result c.in_range.result
    c.in_range.ensures (search rules) none c.parse.ensures.value.0
