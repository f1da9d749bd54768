use Rattle.std.proofs.Common.{◌∷◌, ◌++◌, [], chars, string_bytes, length}
use denote.Text.{Utf8}
use denote.Shadow.{shadow}
use Rattle.tp_lex.specs.Characters.{quote}
use Rattle.tp_write.specs.Names.{all_escaped, quoted}
use Rattle.tp_terms.specs.Added.{Progress}
use Rattle.tp_write.proofs.names.write_quoted.Given as goal

abbrev pub invariant-characters : goal.invariant-characters
invariant-characters l =
    shadow (Utf8 l.rest)
    × Progress (chars (string_bytes l.fn.out)) (chars (string_bytes l.out)) (quoted (chars l.name)) (all_escaped (chars l.rest) ++ quote ∷ [])

abbrev pub decreases-characters : goal.decreases-characters
decreases-characters l = length (chars l.rest)
