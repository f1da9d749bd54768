-- The comparison of two values, the left one first.
use Rattle.std.proofs.Common.{◌≡◌, Bool, Ok, Err, sym, ap, ◌∙◌}
use Rattle.std.specs.Prelude.{ℤ}
use Rattle.tp_meaning.specs.Checks.{Checked, ◌>>=◌}
use Rattle.tp_meaning.specs.Heap.{Heap}
use Rattle.tp_arith.specs.declared.raising.Raise.{Raise}
use Rattle.tp_arith.specs.declared.raising.Raise.TheVariants.{Raised, NoMemory}
use Rattle.tp_arith.specs.Values.{Evaluates}

abbrev pub tested : (ℤ → ℤ → Bool) → Checked ℤ → Checked ℤ → Checked Bool
tested test c d = c >>= (λ a. d >>= (λ b. Ok (test a b)))

-- the left value is known, and the right one raises an error
pub tested-right : (h : Heap) (test : ℤ → ℤ → Bool) (c d e : Checked ℤ) (x : ℤ) (r : Raise) → c ≡ Ok x → e ≡ d → Evaluates {A = ℤ} h e (Err r) → Evaluates {A = Bool} h (tested test c d) (Err r)
tested-right h test c d e x (Raised at) is same v =
    (v.0, ap (λ m. tested test m d) is ∙ ap (λ (m : Checked ℤ). m >>= (λ b. Ok (test x b))) (sym same ∙ v.1))
tested-right h test c d e x NoMemory is same v = tt

-- both values are known
pub tested-both : (h : Heap) (test : ℤ → ℤ → Bool) (c d e : Checked ℤ) (x y : ℤ) (b : Bool) → c ≡ Ok x → e ≡ d → e ≡ Ok y → b ≡ test x y → Evaluates {A = Bool} h (tested test c d) (Ok b)
tested-both h test c d e x y b is same known value =
    ap (λ m. tested test m d) is ∙ ap (λ (m : Checked ℤ). m >>= (λ z. Ok (test x z))) (sym same ∙ known) ∙ ap Ok (sym value)
