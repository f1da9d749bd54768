use Rattle.std.proofs.Common.{◌≡◌, chars, string_bytes, IfOk, List, ℕ, subst, ◌∙◌, arith}
use Rattle.tp_lex.proofs.TokensStand.Each.{given}
use Rattle.tp_lex.proofs.Forms.Meant.{quotes-of, quoted-name, plain-name}
use Rattle.tp_lex.proofs.meaning.token_text.Goals as goal

pub range_from-requires : goal.range_from-requires
range_from-requires c =
    let g = c.requires.given in
    λ _. (given c.args.text.now g.at c.args.token.now c.utf8.text g.place g.found).formed.begins

pub unquoted-requires : goal.unquoted-requires
unquoted-requires c =
    let g = c.requires.given in
    let f = (given c.args.text.now g.at c.args.token.now c.utf8.text g.place g.found).formed in
    quotes-of _ _ c.args.token.now f c.in-Quoted.is c.range_from.ensures.value

pub range-requires : goal.range-requires
range-requires c =
    let g = c.requires.given in
    let t = given c.args.text.now g.at c.args.token.now c.utf8.text g.place g.found in
    record { start_le_end = let e = t.stands.ends in omega arith; start_boundary = λ _. t.formed.begins; end_boundary = t.stands.next_place }

pub returns-in-Quoted : goal.returns-in-Quoted
returns-in-Quoted c =
    let name = quoted-name _ _ c.args.token.now c.in-Quoted.is c.range_from.ensures.value in
    subst (λ (x : List ℕ). IfOk c.unquoted.result (λ n. chars (string_bytes n) ≡ x)) name c.unquoted.ensures

pub returns-in_ok-from_str-in_default : goal.returns-in_ok-from_str-in_default
returns-in_ok-from_str-in_default c =
    let g = c.requires.given in
    let f = (given c.args.text.now g.at c.args.token.now c.utf8.text g.place g.found).formed in
    plain-name _ _ c.args.token.now c.utf8.text f c.requires.named c.in_default.not-Quoted c.in_default.not-Codes (c.in_ok-from_str-in_default.ensures.ok ∙ c.range.ensures.value)
