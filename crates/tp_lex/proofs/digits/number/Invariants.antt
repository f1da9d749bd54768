use Rattle.std.proofs.Common.{◌≡◌, ℕ, ◌-◌, ◌^◌, chars, length, min}
use denote.Text.{Utf8}
use denote.Shadow.{shadow}
use Rattle.tp_lex.specs.Digits.{after_digits, value_with}
use Rattle.tp_lex.proofs.digits.number.Given as goal

abbrev pub invariant-loop-c : goal.invariant-loop-c
invariant-loop-c l = shadow (Utf8 l.rest)
    × (after_digits l.base (chars l.rest) ≡ after_digits l.base (chars l.text))
    × ((n : ℕ) × (l.value ≡ min n (2 ^ 64 - 1)) × (value_with l.base n (chars l.rest) ≡ value_with l.base 0 (chars l.text)))

abbrev pub decreases-loop-c : goal.decreases-loop-c
decreases-loop-c l = length (chars l.rest)
