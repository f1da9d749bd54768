-- Results within 64 bits.
use Rattle.std.proofs.Common.{◌≡◌, ℕ, ◌<◌, nat_lt, Bool, true, false, ◌||◌, Option, Some, None, Ok, Err, refl, sym, ap, ◌∙◌, arith}
use Rattle.std.specs.Prelude.{ℤ, pos, negsuc, FitsSigned, if◌then◌else◌}
use Rattle.std.specs.Int.{w64, cast_signed, cast_unsigned}
use Rattle.std.specs.Option.{SomeIff, ok_or}
use Rattle.std.proofs.lemmas.Bool.Decides.{nat_tests}
use Rattle.std.proofs.lemmas.Int.{to_z-of_z}
use Rattle.tp_meaning.specs.Checks.{◌>>◌, ◌if◌, evaluation_error}
use Rattle.tp_meaning.specs.Arith.{bounded}
use Rattle.tp_arith.specs.declared.stop.EvaluationError.TheVariants.{Overflow}
use Rattle.tp_arith.specs.Errors.{told}

-- a number's bits, read back
abbrev pub bits_of : ℤ → ℤ
bits_of z = cast_signed w64 (cast_unsigned w64 z)

pub bits_of-fits : (z : ℤ) → FitsSigned w64 z → bits_of z ≡ z
bits_of-fits z f = to_z-of_z w64 z f

pub bounded-fits : (z : ℤ) → FitsSigned w64 z → bounded z ≡ Ok z
bounded-fits (pos n) f = let l : nat_lt 9223372036854775807 n ≡ false = grind (arith, nat_tests) in ap (λ b. (evaluation_error "int_overflow" if b) >> Ok (pos n)) l
bounded-fits (negsuc n) f = let l : nat_lt 9223372036854775807 n ≡ false = grind (arith, nat_tests) in ap (λ b. (evaluation_error "int_overflow" if (b || false)) >> Ok (negsuc n)) l

above : (n : ℕ) → ¬ (n < 9223372036854775808) → nat_lt 9223372036854775807 n ≡ true
above n f = go (nat_lt 9223372036854775807 n) refl
  where
    go : (b : Bool) → nat_lt 9223372036854775807 n ≡ b → nat_lt 9223372036854775807 n ≡ true
    go true e = e
    go false e = absurd (f (grind (arith, nat_tests)))

pub bounded-not : (z : ℤ) → ¬ (FitsSigned w64 z) → bounded z ≡ Err (evaluation_error "int_overflow")
bounded-not (pos n) f = ap (λ b. (evaluation_error "int_overflow" if b) >> Ok (pos n)) (above n (λ l. f (record { sfits = l })))
bounded-not (negsuc n) f = ap (λ b. (evaluation_error "int_overflow" if (b || false)) >> Ok (negsuc n)) (above n (λ l. f (record { sfits = l })))

-- what a checked method answers
pub told-ok_or : (o : Option ℤ) (z : ℤ) → SomeIff o (FitsSigned w64 z) z → told (ok_or o Overflow) ≡ bounded z
told-ok_or None z h = sym (bounded-not z h)
told-ok_or (Some x) z h = ap Ok h.1 ∙ sym (bounded-fits z h.0)
