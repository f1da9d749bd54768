-- Cells as they are kept, one more and fewer.
use Rattle.std.proofs.Common.{◌≡◌, ℕ, List, [], ◌∷◌, ◌++◌, length, map, take, drop, Some, slice_get, option_map, ap, sym, subst, ◌∙◌, inl, inr}
use Rattle.std.proofs.lemmas.List.{map-append, take-append-drop}
use Rattle.std.proofs.lemmas.Option.{slice_get-map, slice_get_within}
use Rattle.tp_terms.specs.declared.cells.Cell.{Cell}
use Rattle.tp_terms.specs.declared.cells.Kept.{Kept}
use Rattle.tp_terms.specs.Kept.{cell_of}
use Rattle.tp_terms.specs.Shown.{AreBuilt, StandsBefore}
use Rattle.tp_terms.proofs.Naming.Tables.{slice_get-append, slice_get-push}

-- one more is kept
pub map-push : (ks : List Kept) (k : Kept) (c : Cell) → cell_of k ≡ c → map cell_of (ks ++ k ∷ []) ≡ map cell_of ks ++ c ∷ []
map-push ks k c e = map-append cell_of ks (k ∷ []) ∙ ap (λ x. map cell_of ks ++ x ∷ []) e

-- what is kept at a place
pub kept-at : (ks : List Kept) (at : ℕ) (k : Kept) → slice_get ks at ≡ Some k → slice_get (map cell_of ks) at ≡ Some (cell_of k)
kept-at ks at k e = slice_get-map cell_of ks at ∙ ap (option_map cell_of) e

-- arguments still stand before their compounds where a cell is added behind its arguments
pub AreBuilt-push : (cells : List Cell) (x : Cell) → AreBuilt cells → StandsBefore (length cells) x → AreBuilt (cells ++ x ∷ [])
AreBuilt-push cells x b h at y e =
    elim (slice_get-push cells x at y e) [
      | inl old ↦ b at y old
      | inr new ↦ subst (λ n. StandsBefore n y) (sym new.0) (subst (StandsBefore (length cells)) (sym new.1) h)
    ]

-- and where cells are cut off
AreBuilt-prefix : (xs ys : List Cell) → AreBuilt (xs ++ ys) → AreBuilt xs
AreBuilt-prefix xs ys b at y e = b at y (slice_get-append xs ys at (slice_get_within xs at y e) ∙ e)

pub AreBuilt-take : (n : ℕ) (cells : List Cell) → AreBuilt cells → AreBuilt (take n cells)
AreBuilt-take n cells b = AreBuilt-prefix (take n cells) (drop n cells) (subst AreBuilt (sym (take-append-drop n cells)) b)
