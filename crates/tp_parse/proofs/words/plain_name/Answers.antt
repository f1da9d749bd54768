use Rattle.std.proofs.Common.{arith}
use Rattle.tp_lex.proofs.TokensStand.Each.{given}
use Rattle.tp_lex.proofs.Forms.Meant.{plain-name}
use Rattle.tp_parse.proofs.words.plain_name.Goals as goal

pub range-requires : goal.range-requires
range-requires c =
    let g = c.requires.given in
    let t = given c.args.text.now g.at c.args.token.now c.utf8.text g.place g.found in
    record { start_le_end = let e = t.stands.ends in omega arith; start_boundary = λ _. t.formed.begins; end_boundary = t.stands.next_place }

pub returns : goal.returns
returns c =
    let g = c.requires.given in
    let f = (given c.args.text.now g.at c.args.token.now c.utf8.text g.place g.found).formed in
    plain-name _ _ c.args.token.now c.utf8.text f c.requires.named c.requires.unquoted c.requires.no_codes c.range.ensures.value
