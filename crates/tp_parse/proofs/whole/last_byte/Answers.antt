use Rattle.tp_parse.proofs.ReadsTerms.Whole.{last-word}
use Rattle.tp_parse.proofs.whole.last_byte.Goals as goal

pub returns-in-Some : goal.returns-in-Some
returns-in-Some c = λ text. let i = c.in-Some.ensures.item in last-word text c.args.end c.args.words.now c.in-Some.word.now i.1 i.3.0
