-- The newest choice is older than the machine's world.
use Rattle.std.proofs.Common.{◌≡◌, ◌-◌, ◌<◌, List, [], ◌∷◌, ◌++◌, length, Option, Some, slice_get, IfSome, refl, ap, sym, subst, ◌∙◌, arith, length-append}
use Rattle.tp_control.specs.declared.choices.Choice.{Choice}
use Rattle.tp_control.specs.Stamps.{newest}
use Rattle.tp_machine.specs.declared.machine.Machine.{Machine}
use Rattle.tp_machine.specs.Machine.{IsMachine}
use Rattle.tp_machine.proofs.GoesBack.Rewound.{newest_first}

seam : {A : Type 0} (xs : List A) (x : A) → slice_get (xs ++ x ∷ []) (length xs) ≡ Some x
seam [] x = refl
seam (y ∷ ys) x = seam ys x

last-is : {A : Type 0} (xs : List A) (x : A) → slice_get (xs ++ x ∷ []) (length (xs ++ x ∷ []) - 1) ≡ Some x
last-is xs x = ap (slice_get (xs ++ x ∷ [])) (let e = length-append xs (x ∷ []) in let z : length (xs ++ x ∷ []) - 1 ≡ length xs = omega arith in z) ∙ seam xs x

-- a list has no element, or a last one
data Ends {A : Type 0} (xs : List A) : Type 0 where
  none : xs ≡ [] → Ends xs
  some : (front : List A) (x : A) → xs ≡ front ++ x ∷ [] → Ends xs

ends : {A : Type 0} (xs : List A) → Ends xs
ends [] = none refl
ends (x ∷ xs) = go (ends xs)
  where
    go : Ends xs → Ends (x ∷ xs)
    go (none e) = some [] x (ap (λ ys. x ∷ ys) e)
    go (some front y e) = some (x ∷ front) y (ap (λ ys. x ∷ ys) e)

pub newest_below : (m : Machine) → IsMachine m → IfSome (newest m.choices) (λ c. c.stamp < m.stamp)
newest_below m is = go (ends m.choices)
  where
    go : Ends m.choices → IfSome (newest m.choices) (λ c. c.stamp < m.stamp)
    go (none e) = subst (λ (cs : List Choice). IfSome (newest cs) (λ c. c.stamp < m.stamp)) (sym e) tt
    go (some front x e) =
        subst (λ (cs : List Choice). IfSome (newest cs) (λ c. c.stamp < m.stamp)) (sym e)
        (subst (λ (o : Option Choice). IfSome o (λ c. c.stamp < m.stamp)) (sym (last-is front x)) (newest_first m front x is e))
