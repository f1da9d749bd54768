-- Texts that a call gives, as characters.
use Rattle.std.specs.Prelude.{ℕ, ◌-◌, ◌^◌, min, List, chars, Result, Ok, Err}
use Rattle.std.specs.Borrow.{Bor}

abbrev pub text_chars : Bor (List ℕ) → List ℕ
text_chars text = chars text.now

-- a value, and the characters of the text beside it
abbrev pub beside_chars : {A : Type 0} → A × Bor (List ℕ) → A × List ℕ
beside_chars p = (p.0, chars p.1.now)

abbrev pub answer : {A B E : Type 0} → (A → B) → Result A E → Result B E
answer f (Ok x) = Ok (f x)
answer f (Err e) = Err e

-- a number as far as 64 bits hold it, and what stands beside it
abbrev pub capped : ℕ × List ℕ → ℕ × List ℕ
capped p = (min p.0 (2 ^ 64 - 1), p.1)
