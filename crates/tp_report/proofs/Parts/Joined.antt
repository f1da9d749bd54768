-- A loop that adds the texts of some things in their order.
use Rattle.std.proofs.Common.{◌≡◌, ℕ, suc, ◌+◌, ◌<◌, ◌≤◌, List, [], ◌∷◌, ◌++◌, length, drop, slice_get, Some, None, ap, sym, ◌∙◌, flat_map, get_or, add-one, arith}
use Rattle.std.proofs.Math.Seq.{drop-cons}
use Rattle.std.proofs.lemmas.List.{drop_all}
use Rattle.std.proofs.lemmas.Option.{slice_get_within, get_or_from_slice_get, slice_get-get_or}

module _ {A : Type 0} (text : A → List ℕ) where
  -- what is left: the next one's text, and what is left behind it
  pub left-next : (xs : List A) (i : ℕ) (x : A) → slice_get xs i ≡ Some x → flat_map text (drop i xs) ≡ text x ++ flat_map text (drop (i + 1) xs)
  left-next xs i x e =
      ap (flat_map text) (drop-cons xs i x (slice_get_within xs i x e))
      ∙ ap (λ y. text y ++ flat_map text (drop (suc i) xs)) (get_or_from_slice_get xs i x x e)
      ∙ ap (λ n. text x ++ flat_map text (drop n xs)) (sym (add-one i))

  -- the same by an index that is within the list
  pub left-at : (xs : List A) (i : ℕ) (d : A) → i < length xs → flat_map text (drop i xs) ≡ text (get_or xs i d) ++ flat_map text (drop (i + 1) xs)
  left-at xs i d h = left-next xs i (get_or xs i d) (slice_get-get_or xs i d h)

  -- behind the last one nothing is left
  pub left-none : (xs : List A) (i : ℕ) → length xs ≤ i → flat_map text (drop i xs) ≡ []
  left-none xs i h = ap (flat_map text) (drop_all i xs h)

-- before its end a list has an element
pub not_past : {A : Type 0} (xs : List A) (i n : ℕ) → n ≡ length xs → i < n → None ≡ slice_get xs i → ⊥
not_past xs i n e h none = by xs i (omega (arith, e, h)) none
  where
    by : {A : Type 0} (xs : List A) (i : ℕ) → i < length xs → None ≡ slice_get xs i → ⊥
    by [] i h none = absurd (omega arith)
    by (x ∷ xs) i h none = let e = slice_get-get_or (x ∷ xs) i x h in cc
