-- Products by powers of two, in two steps.
use Rattle.std.proofs.Common.{◌≡◌, ℕ, zero, suc, ◌-◌, ◌*◌, ◌/◌, ◌<◌, ◌≤◌, ◌^◌, Option, Ok, Err, refl, sym, ap, subst, ◌∙◌, arith}
use Rattle.std.specs.Prelude.{ℤ, pos, negsuc, ◌*ℤ◌, neg_ℤ, FitsSigned}
use Rattle.std.specs.Int.{w64}
use Rattle.std.specs.Option.{SomeIff, ok_or}
use Rattle.std.proofs.Math.Nat.{mul_assoc, le-mul_of_pos_right}
use Rattle.std.proofs.lemmas.Nat.{pow-add, pow_pos}
use Rattle.tp_meaning.specs.Checks.{Checked, ◌>>=◌, evaluation_error}
use Rattle.tp_meaning.specs.Arith.{bounded, distance, binary_value}
use Rattle.tp_meaning.specs.declared.evaluables.BinaryOperation.TheVariants as binary
use Rattle.tp_arith.specs.declared.stop.EvaluationError.TheVariants.{Overflow}
use Rattle.tp_arith.specs.Errors.{told}
use Rattle.tp_arith.proofs.Evaluation.Bounds.{bits_of, bits_of-fits, bounded-not, told-ok_or}

zero_times : (n : ℕ) → 0 * n ≡ 0
zero_times n = omega arith

neg-times : (k n : ℕ) → neg_ℤ (pos k) *ℤ pos n ≡ neg_ℤ (pos (k * n))
neg-times zero n = ap pos (zero_times n) ∙ sym (ap (λ m. neg_ℤ (pos m)) (zero_times n))
neg-times (suc k) n = refl

times-times : (x : ℤ) (m n : ℕ) → x *ℤ pos m *ℤ pos n ≡ x *ℤ pos (m * n)
times-times (pos a) m n = ap pos (mul_assoc a m n)
times-times (negsuc a) m n = neg-times (suc a * m) n ∙ ap (λ k. neg_ℤ (pos k)) (mul_assoc (suc a) m n)

le-times : (k n : ℕ) → 0 < n → k ≤ k * n
le-times k n h = le-mul_of_pos_right k h

fits-smaller : (k m : ℕ) → k ≤ m → FitsSigned w64 (neg_ℤ (pos m)) → FitsSigned w64 (neg_ℤ (pos k))
fits-smaller zero m le f = record { sfits = omega arith }
fits-smaller (suc k) zero le f = absurd (omega arith)
fits-smaller (suc k) (suc m) le f = record { sfits = let l : m < 9223372036854775808 = f.sfits in omega arith }

-- what fits when it is multiplied fits
fits-factor : (x : ℤ) (m n : ℕ) → 0 < n → FitsSigned w64 (x *ℤ pos (m * n)) → FitsSigned w64 (x *ℤ pos m)
fits-factor (pos a) m n h f = record { sfits = let l : a * (m * n) < 9223372036854775808 = f.sfits in omega (arith, le-times (a * m) n h, mul_assoc a m n) }
fits-factor (negsuc a) m n h f = fits-smaller (suc a * m) (suc a * (m * n)) (omega (arith, le-times (suc a * m) n h, mul_assoc (suc a) m n)) f

-- a shift by a distance that is known
shift_known : (x y : ℤ) (k : ℕ) → FitsSigned w64 y → Ok k ≡ distance (bits_of y) → binary_value binary.ShiftLeft x y ≡ bounded (x *ℤ pos (2 ^ k))
shift_known x y k fy e =
    ap (λ v. distance v >>= (λ (n : ℕ). Ok (x *ℤ pos (2 ^ n))) >>= bounded) (sym (bits_of-fits y fy))
    ∙ ap (λ (d : Checked ℕ). d >>= (λ (n : ℕ). Ok (x *ℤ pos (2 ^ n))) >>= bounded) (sym e)

-- the first product
first_product : (x p : ℤ) (i : ℕ) → FitsSigned w64 x → FitsSigned w64 p → p ≡ pos (2 ^ i) → bits_of x *ℤ bits_of p ≡ x *ℤ pos (2 ^ i)
first_product x p i fx fp e =
    ap (λ v. v *ℤ bits_of p) (bits_of-fits x fx) ∙ ap (λ v. x *ℤ v) (bits_of-fits p fp) ∙ ap (λ v. x *ℤ v) e

half_and_half : (k : ℕ) → 2 ^ (k / 2) * 2 ^ (k - k / 2) ≡ 2 ^ k
half_and_half k = sym (pow-add 2 (k / 2) (k - k / 2)) ∙ ap (λ n. 2 ^ n) (omega arith)

-- the first product is too large
pub told-shift-early : (x y p : ℤ) (k : ℕ) → FitsSigned w64 x → FitsSigned w64 y → FitsSigned w64 p → Ok k ≡ distance (bits_of y) → p ≡ pos (2 ^ (k / 2)) → ¬ (FitsSigned w64 (bits_of x *ℤ bits_of p))
    → ◌≡◌ {A = Checked ℤ} (Err (evaluation_error "int_overflow")) (binary_value binary.ShiftLeft x y)
told-shift-early x y p k fx fy fp e d large =
    sym (shift_known x y k fy e ∙ bounded-not (x *ℤ pos (2 ^ k)) (λ f. large (
    subst (FitsSigned w64) (sym (first_product x p (k / 2) fx fp d))
    (fits-factor x (2 ^ (k / 2)) (2 ^ (k - k / 2)) (pow_pos (k - k / 2)) (subst (λ n. FitsSigned w64 (x *ℤ pos n)) (sym (half_and_half k)) f)))))

-- both products
pub told-shift : (x y p q s : ℤ) (o : Option ℤ) (k : ℕ) → FitsSigned w64 x → FitsSigned w64 y → FitsSigned w64 p → FitsSigned w64 q → Ok k ≡ distance (bits_of y)
    → p ≡ pos (2 ^ (k / 2)) → q ≡ pos (2 ^ (k - k / 2)) → FitsSigned w64 (bits_of x *ℤ bits_of p) → s ≡ bits_of x *ℤ bits_of p
    → SomeIff o (FitsSigned w64 (bits_of s *ℤ bits_of q)) (bits_of s *ℤ bits_of q) → told (ok_or o Overflow) ≡ binary_value binary.ShiftLeft x y
told-shift x y p q s o k fx fy fp fq e d1 d2 f1 e1 h =
    let fs : FitsSigned w64 s = subst (FitsSigned w64) (sym e1) f1 in
    let product : bits_of s *ℤ bits_of q ≡ x *ℤ pos (2 ^ k) =
    first_product s q (k - k / 2) fs fq d2
    ∙ ap (λ v. v *ℤ pos (2 ^ (k - k / 2))) (e1 ∙ first_product x p (k / 2) fx fp d1)
    ∙ times-times x (2 ^ (k / 2)) (2 ^ (k - k / 2))
    ∙ ap (λ n. x *ℤ pos n) (half_and_half k) in
    told-ok_or o (bits_of s *ℤ bits_of q) h ∙ ap bounded product ∙ sym (shift_known x y k fy e)
