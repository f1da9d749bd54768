-- Digits, one at a time.
use Rattle.std.proofs.Common.{◌≡◌, ℕ, ◌+◌, ◌*◌, ◌<◌, ◌≤◌, min, true, false, List, [], ◌∷◌, ap, ◌∙◌, arith}
use Rattle.std.proofs.Common.{inl, inr}
use Rattle.std.proofs.lemmas.Nat.{mul-le}
use Rattle.std.proofs.lemmas.Bool.Decides.{nat_tests, leb_tells}
use Rattle.std.specs.Char.{is_digit, digit_value}
use Rattle.tp_lex.specs.Digits.{after_digits, value_with}

pub after_digits-goes : (base c : ℕ) (cs all : List ℕ) → all ≡ c ∷ cs → digit_value c < base → after_digits base all ≡ after_digits base cs
unfolding after_digits
after_digits-goes base c cs all e p = let t : is_digit c base ≡ true = grind (arith, nat_tests) in rw (e, t)

pub after_digits-stops : (base c : ℕ) (cs all : List ℕ) → all ≡ c ∷ cs → ¬ (digit_value c < base) → after_digits base all ≡ all
unfolding after_digits
after_digits-stops base c cs all e p = let t : is_digit c base ≡ false = grind (arith, nat_tests) in rw (e, t)

pub after_digits-none : (base : ℕ) (all : List ℕ) → all ≡ [] → after_digits base all ≡ all
unfolding after_digits
after_digits-none base all e = rw e

pub value_with-goes : (base value c : ℕ) (cs all : List ℕ) → all ≡ c ∷ cs → digit_value c < base → value_with base value all ≡ value_with base (value * base + digit_value c) cs
unfolding value_with
value_with-goes base value c cs all e p = let t : is_digit c base ≡ true = grind (arith, nat_tests) in rw (e, t)

pub value_with-stops : (base value c : ℕ) (cs all : List ℕ) → all ≡ c ∷ cs → ¬ (digit_value c < base) → value_with base value all ≡ value
unfolding value_with
value_with-stops base value c cs all e p = let t : is_digit c base ≡ false = grind (arith, nat_tests) in rw (e, t)

pub value_with-none : (base value : ℕ) (all : List ℕ) → all ≡ [] → value_with base value all ≡ value
unfolding value_with
value_with-none base value all e = rw e

-- a number as far as a bound: one more digit
pub saturates : (most n base digit : ℕ) → 1 ≤ base → min (min (min n most * base) most + digit) most ≡ min (n * base + digit) most
saturates most n base digit l =
    elim (leb_tells n most) [
      | inl below ↦ let e : min n most ≡ n = omega arith in rw e (omega arith)
      | inr above ↦
          let e : min n most ≡ most = omega arith in
          let more : n * 1 ≤ n * base = mul-le n 1 n base (omega arith) l in
          let all : most * 1 ≤ most * base = mul-le most 1 most base (omega arith) l in
          rw e (omega (arith, more, all))
    ]

abbrev pub pair_of : ℕ → List ℕ → ℕ × List ℕ
pair_of n xs = (n, xs)

pub same_pair : (a b : ℕ) (xs ys : List ℕ) → a ≡ b → xs ≡ ys → pair_of a xs ≡ pair_of b ys
same_pair a b xs ys e f = ap (λ n. pair_of n xs) e ∙ ap (pair_of b) f
