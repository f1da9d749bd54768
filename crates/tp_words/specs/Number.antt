-- The number that the value of an option writes.
use Rattle.std.specs.Prelude.{ℕ, Bool, false, List, [], ◌∷◌, Option, Some, None, Result, Ok, Err}
use Rattle.std.specs.Prelude.{if◌then◌else◌, nat_eq, nat_le, ◌&&◌}
use Rattle.std.specs.Str.{all_ascii_digits}
use Rattle.std.specs.Str.Parse.{digits_value}

-- one or more digits of ASCII
abbrev pub is_numeral : List ℕ → Bool
is_numeral [] = false
is_numeral (c ∷ cs) = all_ascii_digits (c ∷ cs)

-- a number that is at least `least` and at most `most`
abbrev pub within : ℕ → ℕ → ℕ → Option ℕ
within least most n = if nat_le least n && nat_le n most then Some n else None

-- the number that one or more digits write, where it is at least `least` and at most `most`
abbrev pub number_between : ℕ → ℕ → List ℕ → Option ℕ
number_between least most text =
    if is_numeral text then within least most (digits_value 10 text) else None

-- the number that an option's value writes, from 1 to `most`; the default where it isn't given
abbrev pub number_or : ℕ → ℕ → Option (List ℕ) → Option ℕ
number_or default most None = Some default
number_or default most (Some text) = number_between 1 most text

abbrev pub begins_with_plus : List ℕ → Bool
begins_with_plus [] = false
begins_with_plus (b ∷ bs) = nat_eq b 43

-- a number that was read, where it lies in the range
abbrev pub read_within : {E : Type 0} → ℕ → ℕ → Result ℕ E → Option ℕ
read_within least most (Ok n) = within least most n
read_within least most (Err e) = None
