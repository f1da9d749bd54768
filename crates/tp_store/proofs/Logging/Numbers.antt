-- The binding at a place of a list, and its number.
use Rattle.std.proofs.Common.{◌≡◌, ℕ, zero, suc, ◌+◌, ◌<◌, true, nat_eq, List, [], ◌∷◌, ◌++◌, length, take, get_or, refl, ap, sym, ◌∙◌, arith}
use Rattle.std.proofs.lemmas.Bool.{eqb-true}
use Rattle.std.proofs.lemmas.List.{take_all, take_more}
use Rattle.tp_terms.specs.declared.cells.Ref.{Ref}
use Rattle.tp_store.specs.Trail.{number_at}

-- the binding that stands at a place
pub record BindingAt (pairs : List (ℕ × Ref)) (at : ℕ) : Type 0 where
  pub pair : ℕ × Ref
  pub here : get_or pairs at pair ≡ pair
  pub number : number_at pairs at ≡ pair.0

pub binding_at : (pairs : List (ℕ × Ref)) (at : ℕ) → at < length pairs → BindingAt pairs at
binding_at [] at lt = absurd (omega arith)
binding_at (p ∷ pairs) zero lt = record { pair = p; here = refl; number = refl }
binding_at (p ∷ pairs) (suc at) lt =
    let b = binding_at pairs at (omega arith) in
    record { pair = b.pair; here = b.here; number = b.number }

-- the newest binding is last
pub newest_split : (pairs : List (ℕ × Ref)) (at : ℕ) (p : ℕ × Ref) → length pairs ≡ at + 1 → get_or pairs at p ≡ p → pairs ≡ take at pairs ++ p ∷ []
newest_split pairs at p e here = sym (take_all (at + 1) pairs (omega arith)) ∙ take_more pairs at p (omega arith) ∙ ap (λ q. take at pairs ++ q ∷ []) here

-- a number that was looked for
pub number_found : (pairs : List (ℕ × Ref)) (n at k : ℕ) → k ≡ number_at pairs at → nat_eq k n ≡ true → number_at pairs at ≡ n
number_found pairs n at k is found = sym is ∙ eqb-true k n found
