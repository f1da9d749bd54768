use Rattle.std.proofs.Common.{Some, ap, ◌∙◌}
use Rattle.tp_parse.proofs.ReadsTerms.Whole.{last-ended}
use Rattle.tp_parse.proofs.whole.is_ended.Goals as goal

pub returns-in-Some : goal.returns-in-Some
returns-in-Some c = λ text. let i = c.in-Some.ensures.item in ap Some c.is_end.ensures ∙ last-ended text c.args.words.now c.in-Some.word.now i.1 i.3.0
