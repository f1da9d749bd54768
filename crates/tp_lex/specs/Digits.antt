-- Digits and their values.
use Rattle.std.specs.Prelude.{ℕ, ◌+◌, ◌*◌, Bool, false, List, [], ◌∷◌, if◌then◌else◌}
use Rattle.std.specs.Char.{is_digit, digit_value}

abbrev pub begins_with_digit : ℕ → List ℕ → Bool
begins_with_digit base [] = false
begins_with_digit base (c ∷ cs) = is_digit c base

-- what follows as many digits as follow each other
unfoldable pub after_digits : ℕ → List ℕ → List ℕ
after_digits base [] = []
after_digits base (c ∷ cs) = if is_digit c base then after_digits base cs else c ∷ cs

-- the value of as many digits as follow each other, behind digits of a value
unfoldable pub value_with : ℕ → ℕ → List ℕ → ℕ
value_with base value [] = value
value_with base value (c ∷ cs) =
    if is_digit c base then value_with base (value * base + digit_value c) cs else value

-- the number that the digits at the front stand for, and what follows it
abbrev pub number : ℕ → List ℕ → ℕ × List ℕ
number base cs = (value_with base 0 cs, after_digits base cs)
