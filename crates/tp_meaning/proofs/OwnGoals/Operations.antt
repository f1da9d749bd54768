-- The operations of arithmetic by the places of their names.
use Rattle.std.proofs.Common.{◌≡◌, ℕ, zero, suc, ◌+◌, ◌<◌, nat_eq, List, [], ◌∷◌, length, Option, Some, None, refl, sym, ap, ◌∙◌, arith, slice_get, if◌then◌else◌}
use Rattle.std.proofs.lemmas.Bool.{eq-eqb, ne_eqb}
use Rattle.tp_terms.specs.Term.{Name}
use Rattle.tp_terms.specs.Names.{IsTable}
use Rattle.tp_terms.specs.Shown.{name_at}
use Rattle.tp_terms.specs.StartNames.{start_names}
use Rattle.tp_terms.proofs.Naming.Start.{names_eq-start}
use Rattle.tp_meaning.specs.Arith.{Operations, OperationRow, operations, operations_in, operations_of}
use Rattle.tp_meaning.specs.declared.evaluables.TheConstants.{OPERATIONS}

-- the rows by the places of their names, from a place on
abbrev Aligned : ℕ → List OperationRow → List Operations → Type 0
Aligned k [] [] = Unit {0}
Aligned k (r ∷ rs) (p ∷ ps) = (slice_get start_names k ≡ Some r.name) × (p ≡ r.operations) × Aligned (suc k) rs ps
Aligned k rs ps = ⊥

-- the operations at a place, where they stand from another place on
abbrev operations_from : ℕ → List Operations → ℕ → Operations
operations_from k [] at = (None, None)
operations_from k (p ∷ ps) at = if nat_eq at k then p else operations_from (suc k) ps at

operations_in-place : (names : List Name) → IsTable names → (at : ℕ) → at < length names → (k : ℕ) (rs : List OperationRow) (ps : List Operations) → Aligned k rs ps → operations_in rs (name_at names at) ≡ operations_from k ps at
operations_in-place names t at lt k [] [] h = refl
operations_in-place names t at lt k [] (p ∷ ps) h = absurd h
operations_in-place names t at lt k (r ∷ rs) [] h = absurd h
operations_in-place names t at lt k (r ∷ rs) (p ∷ ps) h =
    ap (λ b. if b then r.operations else operations_in rs (name_at names at)) (names_eq-start names t at k r.name lt h.0)
    ∙ ap (λ (o : Operations). if nat_eq at k then o else operations_in rs (name_at names at)) (sym h.1)
    ∙ ap (λ (o : Operations). if nat_eq at k then p else o) (operations_in-place names t at lt (suc k) rs ps h.2)

none-before : (k : ℕ) (ps : List Operations) (at : ℕ) → at < k → operations_from k ps at ≡ (None, None)
none-before k [] at lt = refl
none-before k (p ∷ ps) at lt =
    ap (λ b. if b then p else operations_from (suc k) ps at) (ne_eqb at k (λ e. absurd (omega arith)))
    ∙ none-before (suc k) ps at (omega arith)

-- the operations of a row, and none where there is no row
abbrev pub or_none : Option Operations → Operations
or_none None = (None, None)
or_none (Some o) = o

operations_from-place : (k d : ℕ) (ps : List Operations) (at : ℕ) → at ≡ k + d → operations_from k ps at ≡ or_none (slice_get ps d)
operations_from-place k d [] at e = refl
operations_from-place k zero (p ∷ ps) at e =
    ap (λ b. if b then p else operations_from (suc k) ps at) (eq-eqb at k (omega arith))
operations_from-place k (suc d) (p ∷ ps) at e =
    ap (λ b. if b then p else operations_from (suc k) ps at) (ne_eqb at k (λ z. absurd (omega arith)))
    ∙ operations_from-place (suc k) d ps at (omega arith)

aligned : Aligned 50 operations OPERATIONS
unfolding start_names operations
aligned = (refl, refl, (refl, refl, (refl, refl, (refl, refl, (refl, refl, (refl, refl, (refl, refl, (refl, refl, (refl, refl, (refl, refl, (refl, refl, (refl, refl, (refl, refl, (refl, refl, (refl, refl, (refl, refl, tt))))))))))))))))

pub operations_of-place : (names : List Name) → IsTable names → (at d : ℕ) → at < length names → at ≡ 50 + d → operations_of (name_at names at) ≡ or_none (slice_get OPERATIONS d)
unfolding operations_of
operations_of-place names t at d lt e = operations_in-place names t at lt 50 operations OPERATIONS aligned ∙ operations_from-place 50 d OPERATIONS at e

pub operations_of-before : (names : List Name) → IsTable names → (at : ℕ) → at < length names → at < 50 → operations_of (name_at names at) ≡ (None, None)
unfolding operations_of
operations_of-before names t at lt e = operations_in-place names t at lt 50 operations OPERATIONS aligned ∙ none-before 50 OPERATIONS at e
