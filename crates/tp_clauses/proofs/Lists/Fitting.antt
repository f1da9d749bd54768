-- Each clause of a base fits.
use Rattle.std.proofs.Common.{◌≡◌, ℕ, zero, suc, List, [], ◌∷◌, slice_get, Some, subst}
use Rattle.std.specs.List.{All}
use Rattle.std.proofs.lemmas.List.Elements.{All-head, All-tail}
use Rattle.tp_clauses.specs.Contents.{ViewFits}
use Rattle.tp_clauses.specs.Parts.{IsParts}
use Rattle.tp_clauses.specs.declared.base.ClauseView.{ClauseView}
use Rattle.tp_clauses.specs.declared.parts.Parts.{Parts}

-- what holds of each element holds of the one at a place
pub all_at : {X : Type 0} (P : X → Type 0) (xs : List X) (i : ℕ) (x : X) → All P xs → slice_get xs i ≡ Some x → P x
all_at P [] i x h e = absurd (cc)
all_at P (y ∷ ys) zero x h e = let same : y ≡ x = cc in subst P same (All-head P y ys h)
all_at P (y ∷ ys) (suc i) x h e = all_at P ys i x (All-tail P y ys h) e

-- the clause at a place fits
pub view_at : (p : Parts) → IsParts p → (at : ℕ) (v : ClauseView) → slice_get p.clauses.items at ≡ Some v → ViewFits p.store.cells v
view_at p h at v here = all_at (ViewFits p.store.cells) p.clauses.items at v (h.base).clauses here
