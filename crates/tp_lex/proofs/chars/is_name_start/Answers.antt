use Rattle.std.proofs.Common.{◌<◌, ◌∙◌, arith}
use Rattle.std.proofs.lemmas.Bool.Decides.{nat_tests}
use Rattle.tp_lex.proofs.Characters.Ascii.{is_name_start-small}
use Rattle.tp_lex.proofs.chars.is_name_start.Goals as goal

pub returns-then-is_ascii : goal.returns-then-is_ascii
returns-then-is_ascii c =
    let low : c.args.c < 128 = grind (arith, nat_tests) in
    c.is_ascii_lowercase.ensures.value ∙ is_name_start-small c.args.c low
