use Rattle.std.proofs.Common.{◌<◌, ◌∙◌, arith, sym}
use Rattle.std.proofs.lemmas.Bool.Decides.{nat_tests}
use Rattle.tp_lex.proofs.Characters.Ascii.{is_xid_continue-plain, is_xid_continue-small}
use Rattle.tp_lex.proofs.chars.is_continuing.Goals as goal

pub returns-then-is_ascii_alphanumeric : goal.returns-then-is_ascii_alphanumeric
returns-then-is_ascii_alphanumeric c =
    let low : c.args.c < 128 = grind (arith, nat_tests) in
    let same = is_xid_continue-plain c.args.c low in
    let is = c.if-is_ascii_alphanumeric.ensures.value in
    c.if-is_ascii_alphanumeric.true ∙ (rw (← is) at same)

pub returns-else-is_ascii_alphanumeric : goal.returns-else-is_ascii_alphanumeric
returns-else-is_ascii_alphanumeric c =
    let low : c.args.c < 128 = grind (arith, nat_tests) in
    let same = is_xid_continue-plain c.args.c low in
    let is = c.if-is_ascii_alphanumeric.ensures.value in
    rw (← is) at same

pub returns-then-is_ascii_lowercase : goal.returns-then-is_ascii_lowercase
returns-then-is_ascii_lowercase c = sym (is_xid_continue-small c.args.c (sym c.if-is_ascii_lowercase.ensures.value))
