use Rattle.tp_lex.proofs.TokensStand.Each.{given}
use Rattle.tp_lex.proofs.Forms.Meant.{value-some, value-none}
use Rattle.tp_lex.proofs.meaning.integer_value.Goals as goal

pub range_from-requires : goal.range_from-requires
range_from-requires c =
    let g = c.requires.given in
    λ _. (given c.args.text.now g.at c.args.token.now c.utf8.text g.place g.found).formed.begins

pub returns-in-Some-clause-value : goal.returns-in-Some-clause-value
returns-in-Some-clause-value c =
    let g = c.requires.given in
    let f = (given c.args.text.now g.at c.args.token.now c.utf8.text g.place g.found).formed in
    (value-some _ _ _ c.args.token.now _ f c.requires.kind c.range_from.ensures.value c.in-Some.ensures.value).0

pub returns-in-Some-clause-most : goal.returns-in-Some-clause-most
returns-in-Some-clause-most c =
    let g = c.requires.given in
    let f = (given c.args.text.now g.at c.args.token.now c.utf8.text g.place g.found).formed in
    (value-some _ _ _ c.args.token.now _ f c.requires.kind c.range_from.ensures.value c.in-Some.ensures.value).1

pub returns-in-None-clause-value : goal.returns-in-None-clause-value
returns-in-None-clause-value c = value-none _ _ c.args.token.now c.requires.kind c.range_from.ensures.value c.in-None.ensures.value
