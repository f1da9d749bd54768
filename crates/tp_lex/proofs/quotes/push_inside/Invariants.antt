use Rattle.std.proofs.Common.{chars, length, string_bytes}
use denote.Text.{Utf8}
use denote.Shadow.{shadow}
use Rattle.tp_lex.proofs.Forms.Quoted.{Filled}
use Rattle.tp_lex.proofs.quotes.push_inside.Given as goal

abbrev pub invariant-items : goal.invariant-items
invariant-items l = shadow (Utf8 l.rest) × Filled l.mark (chars l.text) (chars (string_bytes l.initial.out)) (chars (string_bytes l.out)) (chars l.rest)

abbrev pub decreases-items : goal.decreases-items
decreases-items l = length (chars l.rest)
