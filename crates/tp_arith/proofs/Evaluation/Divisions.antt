-- Quotients toward minus infinity, by quotients toward zero, and what they leave.
use Rattle.std.proofs.Common.{◌≡◌, ℕ, zero, suc, ◌+◌, ◌-◌, ◌*◌, ◌/◌, ◌%◌, ◌<◌, ◌≤◌, Bool, true, refl, sym, ap, subst, ◌∙◌, arith}
use Rattle.std.specs.Prelude.{ℤ, pos, negsuc, ◌+ℤ◌, ◌-ℤ◌, ◌*ℤ◌, neg_ℤ, int_lt, int_div, int_rem, FitsSigned}
use Rattle.std.specs.Int.{w64}
use Rattle.std.proofs.Math.Nat.{div-le_self, zero-div, zero-mod, mod-lt}
use Rattle.std.proofs.lemmas.Int.{ints}
use Rattle.std.proofs.lemmas.Nat.{div-add-mod'}
use Rattle.std.proofs.lemmas.Bool.Decides.{nat_tests}
use Rattle.tp_meaning.specs.Checks.{Checked}
use Rattle.tp_meaning.specs.Arith.{bounded, floor_div, binary_value}
use Rattle.tp_meaning.specs.declared.evaluables.BinaryOperation.TheVariants as binary
use Rattle.tp_arith.proofs.Evaluation.Bounds.{bits_of, bits_of-fits}

-- one operation and then another, each within 64 bits
pub within-both : (f : ℤ → ℤ) (g : ℤ → ℤ → ℤ) (x y p q : ℤ) → FitsSigned w64 x → FitsSigned w64 y → f x ≡ p → FitsSigned w64 p → g p y ≡ q → FitsSigned w64 q → bits_of (g (bits_of (f (bits_of x))) (bits_of y)) ≡ q
within-both f g x y p q fx fy e fp d fq =
    ap (λ v. bits_of (g (bits_of (f v)) (bits_of y))) (bits_of-fits x fx)
    ∙ ap (λ v. bits_of (g (bits_of v) (bits_of y))) e
    ∙ ap (λ v. bits_of (g v (bits_of y))) (bits_of-fits p fp)
    ∙ ap (λ v. bits_of (g p v)) (bits_of-fits y fy)
    ∙ ap bits_of d
    ∙ bits_of-fits q fq

-- ---- the number next to another toward zero

next_below : (a : ℕ) → negsuc a +ℤ pos 1 ≡ neg_ℤ (pos a)
next_below zero = refl
next_below (suc a) = omega (arith, ints)

next_above : (a : ℕ) → pos (suc a) -ℤ pos 1 ≡ pos a
next_above a = omega (arith, ints)

fits_neg : (a n : ℕ) → a ≤ n → n < 9223372036854775808 → FitsSigned w64 (neg_ℤ (pos a))
fits_neg zero n le lt = record { sfits = omega arith }
fits_neg (suc a) n le lt = record { sfits = omega arith }

div_neg : (a b : ℕ) → int_div (neg_ℤ (pos a)) (pos (suc b)) ≡ neg_ℤ (pos (a / suc b))
div_neg zero b = ap pos (zero-div (suc b)) ∙ sym (ap (λ n. neg_ℤ (pos n)) (zero-div (suc b)))
div_neg (suc a) b = refl

less_one : (n : ℕ) → neg_ℤ (pos n) -ℤ pos 1 ≡ negsuc n
less_one zero = refl
less_one (suc n) = omega (arith, ints)

-- ---- quotients

abbrev pub DividesBelow : ℤ → ℤ → Type 0
DividesBelow x y = bits_of (bits_of (int_div (bits_of (bits_of x +ℤ pos 1)) (bits_of y)) -ℤ pos 1) ≡ floor_div x y

divides-below : (a b : ℕ) → FitsSigned w64 (negsuc a) → FitsSigned w64 (pos (suc b)) → DividesBelow (negsuc a) (pos (suc b))
divides-below a b fx fy =
    let lt : a < 9223372036854775808 = fx.sfits in
    let le : a / suc b ≤ a = div-le_self a (suc b) in
    ap (λ v. bits_of (v -ℤ pos 1)) (within-both (λ v. v +ℤ pos 1) int_div (negsuc a) (pos (suc b)) (neg_ℤ (pos a)) (neg_ℤ (pos (a / suc b))) fx fy (next_below a) (fits_neg a a (omega arith) lt) (div_neg a b) (fits_neg (a / suc b) a le lt))
    ∙ ap bits_of (less_one (a / suc b))
    ∙ bits_of-fits (negsuc (a / suc b)) (record { sfits = omega arith })

abbrev pub DividesAbove : ℤ → ℤ → Type 0
DividesAbove x y = bits_of (bits_of (int_div (bits_of (bits_of x -ℤ pos 1)) (bits_of y)) -ℤ pos 1) ≡ floor_div x y

divides-above : (a b : ℕ) → FitsSigned w64 (pos (suc a)) → FitsSigned w64 (negsuc b) → DividesAbove (pos (suc a)) (negsuc b)
divides-above a b fx fy =
    let lt : suc a < 9223372036854775808 = fx.sfits in
    let le : a / suc b ≤ a = div-le_self a (suc b) in
    ap (λ v. bits_of (v -ℤ pos 1)) (within-both (λ v. v -ℤ pos 1) int_div (pos (suc a)) (negsuc b) (pos a) (neg_ℤ (pos (a / suc b))) fx fy (next_above a) (record { sfits = omega arith }) refl (fits_neg (a / suc b) (suc a) (omega arith) lt))
    ∙ ap bits_of (less_one (a / suc b))
    ∙ bits_of-fits (negsuc (a / suc b)) (record { sfits = omega arith })

-- ---- what they leave

rem_neg : (a b : ℕ) → int_rem (neg_ℤ (pos a)) (pos (suc b)) ≡ neg_ℤ (pos (a % suc b))
rem_neg zero b = ap pos (zero-mod (suc b)) ∙ sym (ap (λ n. neg_ℤ (pos n)) (zero-mod (suc b)))
rem_neg (suc a) b = refl

left_below : (a b m p : ℕ) → a ≡ p + m → m ≤ b → (neg_ℤ (pos m) +ℤ pos b ≡ pos (b - m)) × (pos (b - m) ≡ negsuc a -ℤ neg_ℤ (pos (p + suc b)))
left_below a b m p e le = (omega (arith, ints), omega (arith, ints))

left_above : (a b m p : ℕ) → a ≡ p + m → m ≤ b → (pos m +ℤ neg_ℤ (pos b) ≡ neg_ℤ (pos (b - m))) × (neg_ℤ (pos (b - m)) ≡ pos (suc a) -ℤ pos (p + suc b))
left_above a b m p e le = (omega (arith, ints), omega (arith, ints))

suc_times : (q b : ℕ) → suc q * suc b ≡ q * suc b + suc b
suc_times q b = omega arith

abbrev pub LeavesBelow : ℤ → ℤ → Type 0
LeavesBelow x y = bits_of (bits_of (int_rem (bits_of (bits_of x +ℤ pos 1)) (bits_of y)) +ℤ bits_of (bits_of y -ℤ pos 1)) ≡ x -ℤ (floor_div x y *ℤ y)

leaves-below : (a b : ℕ) → FitsSigned w64 (negsuc a) → FitsSigned w64 (pos (suc b)) → LeavesBelow (negsuc a) (pos (suc b))
leaves-below a b fx fy =
    let lt : a < 9223372036854775808 = fx.sfits in
    let lt_b : suc b < 9223372036854775808 = fy.sfits in
    let m : ℕ = a % suc b in
    let p : ℕ = a / suc b * suc b in
    let parts : a ≡ p + m = sym (div-add-mod' a (suc b)) in
    let le : m ≤ b = omega (arith, mod-lt a {m = suc b} (omega arith)) in
    let both = left_below a b m p parts le in
    ap (λ v. bits_of (v +ℤ bits_of (bits_of (pos (suc b)) -ℤ pos 1))) (within-both (λ v. v +ℤ pos 1) int_rem (negsuc a) (pos (suc b)) (neg_ℤ (pos a)) (neg_ℤ (pos m)) fx fy (next_below a) (fits_neg a a (omega arith) lt) (rem_neg a b) (fits_neg m b le (omega arith)))
    ∙ ap (λ v. bits_of (neg_ℤ (pos m) +ℤ bits_of (v -ℤ pos 1))) (bits_of-fits (pos (suc b)) fy)
    ∙ ap (λ v. bits_of (neg_ℤ (pos m) +ℤ bits_of v)) (next_above b)
    ∙ ap (λ v. bits_of (neg_ℤ (pos m) +ℤ v)) (bits_of-fits (pos b) (record { sfits = omega arith }))
    ∙ ap bits_of both.0
    ∙ bits_of-fits (pos (b - m)) (record { sfits = omega arith })
    ∙ both.1
    ∙ ap (λ k. negsuc a -ℤ neg_ℤ (pos k)) (sym (suc_times (a / suc b) b))

abbrev pub LeavesAbove : ℤ → ℤ → Type 0
LeavesAbove x y = bits_of (bits_of (int_rem (bits_of (bits_of x -ℤ pos 1)) (bits_of y)) +ℤ bits_of (bits_of y +ℤ pos 1)) ≡ x -ℤ (floor_div x y *ℤ y)

leaves-above : (a b : ℕ) → FitsSigned w64 (pos (suc a)) → FitsSigned w64 (negsuc b) → LeavesAbove (pos (suc a)) (negsuc b)
leaves-above a b fx fy =
    let lt : suc a < 9223372036854775808 = fx.sfits in
    let lt_b : b < 9223372036854775808 = fy.sfits in
    let m : ℕ = a % suc b in
    let p : ℕ = a / suc b * suc b in
    let parts : a ≡ p + m = sym (div-add-mod' a (suc b)) in
    let le : m ≤ b = omega (arith, mod-lt a {m = suc b} (omega arith)) in
    let both = left_above a b m p parts le in
    ap (λ v. bits_of (v +ℤ bits_of (bits_of (negsuc b) +ℤ pos 1))) (within-both (λ v. v -ℤ pos 1) int_rem (pos (suc a)) (negsuc b) (pos a) (pos m) fx fy (next_above a) (record { sfits = omega arith }) refl (record { sfits = omega arith }))
    ∙ ap (λ v. bits_of (pos m +ℤ bits_of (v +ℤ pos 1))) (bits_of-fits (negsuc b) fy)
    ∙ ap (λ v. bits_of (pos m +ℤ bits_of v)) (next_below b)
    ∙ ap (λ v. bits_of (pos m +ℤ v)) (bits_of-fits (neg_ℤ (pos b)) (fits_neg b b (omega arith) lt_b))
    ∙ ap bits_of both.0
    ∙ bits_of-fits (neg_ℤ (pos (b - m))) (fits_neg (b - m) b (omega arith) lt_b)
    ∙ both.1
    ∙ ap (λ k. pos (suc a) -ℤ pos k) (sym (suc_times (a / suc b) b))

-- ---- the tests of the code, and what they say

-- a number below 0 and one above
record AreBelow (x y : ℤ) : Type 0 where
  pub a : ℕ
  pub b : ℕ
  pub x_is : x ≡ negsuc a
  pub y_is : y ≡ pos (suc b)

below-tests : (x y : ℤ) → int_lt x (pos 0) ≡ true → int_lt (pos 0) y ≡ true → AreBelow x y
below-tests (negsuc a) (pos (suc b)) s t = record { a = a; b = b; x_is = refl; y_is = refl }
below-tests (negsuc a) (pos zero) s t = absurd (let l : 0 < 0 = grind (arith, nat_tests) in omega arith)
below-tests (negsuc a) (negsuc b) s t = absurd (cc)
below-tests (pos a) y s t = absurd (let l : a < 0 = grind (arith, nat_tests) in omega arith)

-- a number's bits in place of the number, in a test
same_test : (f : ℤ → Bool) (x : ℤ) → FitsSigned w64 x → f (bits_of x) ≡ true → f x ≡ true
same_test f x fx t = ap f (sym (bits_of-fits x fx)) ∙ t

from-below : (P : ℤ → ℤ → Type 0) (x y : ℤ) → FitsSigned w64 x → FitsSigned w64 y → int_lt (bits_of x) (pos 0) ≡ true → int_lt (pos 0) (bits_of y) ≡ true
    → ((a b : ℕ) → FitsSigned w64 (negsuc a) → FitsSigned w64 (pos (suc b)) → P (negsuc a) (pos (suc b))) → P x y
from-below P x y fx fy s t f =
    let n = below-tests x y (same_test (λ v. int_lt v (pos 0)) x fx s) (same_test (int_lt (pos 0)) y fy t) in
    subst (λ v. P v y) (sym n.x_is) (subst (P (negsuc n.a)) (sym n.y_is) (f n.a n.b (subst (FitsSigned w64) n.x_is fx) (subst (FitsSigned w64) n.y_is fy)))

from-above : (P : ℤ → ℤ → Type 0) (x y : ℤ) → FitsSigned w64 x → FitsSigned w64 y → int_lt (pos 0) (bits_of x) ≡ true → int_lt (bits_of y) (pos 0) ≡ true
    → ((a b : ℕ) → FitsSigned w64 (pos (suc a)) → FitsSigned w64 (negsuc b) → P (pos (suc a)) (negsuc b)) → P x y
from-above P x y fx fy s t f =
    let n = below-tests y x (same_test (λ v. int_lt v (pos 0)) y fy t) (same_test (int_lt (pos 0)) x fx s) in
    subst (λ v. P v y) (sym n.y_is) (subst (P (pos (suc n.b))) (sym n.x_is) (f n.b n.a (subst (FitsSigned w64) n.y_is fx) (subst (FitsSigned w64) n.x_is fy)))

-- ---- the results of the code

abbrev DividesTold : Checked ℤ → ℤ → ℤ → ℤ → Type 0
DividesTold r z x y = r ≡ bounded z → r ≡ binary_value binary.FloorQuotient x y

abbrev LeavesTold : Checked ℤ → ℤ → ℤ → ℤ → Type 0
LeavesTold r z x y = r ≡ bounded z → r ≡ binary_value binary.Modulus x y

pub told-divides-below : (r : Checked ℤ) (x y : ℤ) → FitsSigned w64 x → FitsSigned w64 y → int_lt (bits_of x) (pos 0) ≡ true → int_lt (pos 0) (bits_of y) ≡ true
    → DividesTold r (bits_of (bits_of (int_div (bits_of (bits_of x +ℤ pos 1)) (bits_of y)) -ℤ pos 1)) x y
told-divides-below r x y fx fy s t =
    from-below (λ v w. DividesTold r (bits_of (bits_of (int_div (bits_of (bits_of v +ℤ pos 1)) (bits_of w)) -ℤ pos 1)) v w) x y fx fy s t
    (λ a b fa fb e. e ∙ ap bounded (divides-below a b fa fb))

pub told-divides-above : (r : Checked ℤ) (x y : ℤ) → FitsSigned w64 x → FitsSigned w64 y → int_lt (pos 0) (bits_of x) ≡ true → int_lt (bits_of y) (pos 0) ≡ true
    → DividesTold r (bits_of (bits_of (int_div (bits_of (bits_of x -ℤ pos 1)) (bits_of y)) -ℤ pos 1)) x y
told-divides-above r x y fx fy s t =
    from-above (λ v w. DividesTold r (bits_of (bits_of (int_div (bits_of (bits_of v -ℤ pos 1)) (bits_of w)) -ℤ pos 1)) v w) x y fx fy s t
    (λ a b fa fb e. e ∙ ap bounded (divides-above a b fa fb))

pub told-leaves-below : (r : Checked ℤ) (x y : ℤ) → FitsSigned w64 x → FitsSigned w64 y → int_lt (bits_of x) (pos 0) ≡ true → int_lt (pos 0) (bits_of y) ≡ true
    → LeavesTold r (bits_of (bits_of (int_rem (bits_of (bits_of x +ℤ pos 1)) (bits_of y)) +ℤ bits_of (bits_of y -ℤ pos 1))) x y
told-leaves-below r x y fx fy s t =
    from-below (λ v w. LeavesTold r (bits_of (bits_of (int_rem (bits_of (bits_of v +ℤ pos 1)) (bits_of w)) +ℤ bits_of (bits_of w -ℤ pos 1))) v w) x y fx fy s t
    (λ a b fa fb e. e ∙ ap bounded (leaves-below a b fa fb))

pub told-leaves-above : (r : Checked ℤ) (x y : ℤ) → FitsSigned w64 x → FitsSigned w64 y → int_lt (pos 0) (bits_of x) ≡ true → int_lt (bits_of y) (pos 0) ≡ true
    → LeavesTold r (bits_of (bits_of (int_rem (bits_of (bits_of x -ℤ pos 1)) (bits_of y)) +ℤ bits_of (bits_of y +ℤ pos 1))) x y
told-leaves-above r x y fx fy s t =
    from-above (λ v w. LeavesTold r (bits_of (bits_of (int_rem (bits_of (bits_of v -ℤ pos 1)) (bits_of w)) +ℤ bits_of (bits_of w +ℤ pos 1))) v w) x y fx fy s t
    (λ a b fa fb e. e ∙ ap bounded (leaves-above a b fa fb))
