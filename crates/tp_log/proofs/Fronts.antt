-- A list without its last element.
use Rattle.std.proofs.Common.{◌≡◌, ◌∙◌, sym, ap, ◌-◌, List, [], ◌∷◌, ◌++◌, length, arith, length-append}
use Rattle.std.proofs.lemmas.List.{take_at}
use Rattle.tp_log.specs.Front.{front}

-- what was added at the end goes
pub front-push : {X : Type 0} (xs : List X) (x : X) → front (xs ++ x ∷ []) ≡ xs
front-push xs x = take_at xs (x ∷ []) (length (xs ++ x ∷ []) - 1) (omega (arith, length-append xs (x ∷ [])))

-- lists that are equal are so without their last elements
pub same-front : {X : Type 0} (xs ys : List X) (x y : X) → xs ++ x ∷ [] ≡ ys ++ y ∷ [] → xs ≡ ys
same-front xs ys x y e = sym (front-push xs x) ∙ ap front e ∙ front-push ys y
