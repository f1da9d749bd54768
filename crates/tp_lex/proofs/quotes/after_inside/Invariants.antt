use Rattle.std.proofs.Common.{◌≡◌, chars, length}
use denote.Text.{Utf8}
use denote.Shadow.{shadow}
use Rattle.tp_lex.specs.Quotes.{after_closing, inside}
use Rattle.tp_lex.proofs.quotes.after_inside.Given as goal

abbrev pub invariant-items : goal.invariant-items
invariant-items l = shadow (Utf8 l.rest) × (after_closing (inside l.mark (chars l.rest)) ≡ after_closing (inside l.mark (chars l.text)))

abbrev pub decreases-items : goal.decreases-items
decreases-items l = length (chars l.rest)
