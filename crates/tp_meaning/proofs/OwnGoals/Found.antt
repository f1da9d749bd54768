-- The goals of the language by the places of their names.
use Rattle.std.proofs.Common.{◌≡◌, ℕ, zero, suc, ◌+◌, ◌<◌, nat_eq, nat_le, true, ◌&&◌, List, [], ◌∷◌, length, Option, Some, None, refl, sym, ap, ◌∙◌, arith, slice_get, if◌then◌else◌}
use Rattle.std.proofs.lemmas.Bool.{eqb-true, eqb-false, ne_eqb}
use Rattle.tp_terms.specs.Term.{Name}
use Rattle.tp_terms.specs.Names.{IsTable}
use Rattle.tp_terms.specs.Shown.{name_at}
use Rattle.tp_terms.specs.StartNames.{start_names}
use Rattle.tp_terms.proofs.Naming.Start.{names_eq-start}
use Rattle.tp_meaning.specs.Goals.{GoalKind, GoalRow, goals, has_count, found_in, goal_kind, kind_of_row}
use Rattle.tp_meaning.specs.declared.goals.TheConstants.{GOALS}

abbrev pub PlaceRow : Type 0
PlaceRow = ℕ × ℕ × GoalKind

-- the rows by the places of their names, from a place on
abbrev Aligned : ℕ → List GoalRow → List PlaceRow → Type 0
Aligned k [] [] = Unit {0}
Aligned k (r ∷ rs) (p ∷ ps) = (slice_get start_names k ≡ Some r.name) × (p ≡ (r.least, r.most, r.kind)) × Aligned (suc k) rs ps
Aligned k rs ps = ⊥

-- the kind of the row at a place, where the rows stand from another place on
abbrev kind_from : ℕ → List PlaceRow → ℕ → ℕ → Option GoalKind
kind_from k [] at count = None
kind_from k (p ∷ ps) at count = if nat_eq at k && (nat_le p.0 count && nat_le count p.1) then Some p.2 else kind_from (suc k) ps at count

found-from : (names : List Name) → IsTable names → (at count : ℕ) → at < length names → (k : ℕ) (rs : List GoalRow) (ps : List PlaceRow) → Aligned k rs ps → found_in rs (name_at names at) count ≡ kind_from k ps at count
found-from names t at count lt k [] [] h = refl
found-from names t at count lt k [] (p ∷ ps) h = absurd h
found-from names t at count lt k (r ∷ rs) [] h = absurd h
found-from names t at count lt k (r ∷ rs) (p ∷ ps) h =
    ap (λ b. if b && has_count r count then Some r.kind else found_in rs (name_at names at) count) (names_eq-start names t at k r.name lt h.0)
    ∙ ap (λ (q : PlaceRow). if nat_eq at k && (nat_le q.0 count && nat_le count q.1) then Some q.2 else found_in rs (name_at names at) count) (sym h.1)
    ∙ ap (λ o. if nat_eq at k && (nat_le p.0 count && nat_le count p.1) then Some p.2 else o) (found-from names t at count lt (suc k) rs ps h.2)

none-before : (k : ℕ) (ps : List PlaceRow) (at count : ℕ) → at < k → kind_from k ps at count ≡ None
none-before k [] at count lt = refl
none-before k (p ∷ ps) at count lt =
    ap (λ b. if b && (nat_le p.0 count && nat_le count p.1) then Some p.2 else kind_from (suc k) ps at count) (ne_eqb at k (λ e. absurd (omega arith)))
    ∙ none-before (suc k) ps at count (omega arith)

abbrev pub kind_of : Option PlaceRow → ℕ → Option GoalKind
kind_of None count = None
kind_of (Some p) count = kind_of_row p count

kind-place : (k d : ℕ) (ps : List PlaceRow) (at count : ℕ) → at ≡ k + d → kind_from k ps at count ≡ kind_of (slice_get ps d) count
kind-place k d [] at count e = refl
kind-place k zero (p ∷ ps) at count e =
    ap (λ n. if nat_eq n k && (nat_le p.0 count && nat_le count p.1) then Some p.2 else kind_from (suc k) ps n count) (let z : at ≡ k = omega arith in z)
    ∙ ap (λ b. if b && (nat_le p.0 count && nat_le count p.1) then Some p.2 else kind_from (suc k) ps k count) (same k)
    ∙ ap (λ o. if nat_le p.0 count && nat_le count p.1 then Some p.2 else o) (none-before (suc k) ps k count (omega arith))
  where
    same : (n : ℕ) → nat_eq n n ≡ true
    same n = Rattle.std.proofs.lemmas.Bool.eq-eqb n n refl
kind-place k (suc d) (p ∷ ps) at count e =
    ap (λ b. if b && (nat_le p.0 count && nat_le count p.1) then Some p.2 else kind_from (suc k) ps at count) (ne_eqb at k (λ z. absurd (omega arith)))
    ∙ kind-place (suc k) d ps at count (omega arith)

aligned : Aligned 3 goals GOALS
unfolding start_names goals
aligned = (refl, refl, (refl, refl, (refl, refl, (refl, refl, (refl, refl, (refl, refl, (refl, refl, (refl, refl, (refl, refl, (refl, refl, (refl, refl, (refl, refl, (refl, refl, (refl, refl, (refl, refl, (refl, refl, (refl, refl, (refl, refl, (refl, refl, (refl, refl, (refl, refl, (refl, refl, (refl, refl, (refl, refl, (refl, refl, (refl, refl, (refl, refl, (refl, refl, (refl, refl, (refl, refl, (refl, refl, (refl, refl, (refl, refl, (refl, refl, (refl, refl, (refl, refl, (refl, refl, (refl, refl, (refl, refl, (refl, refl, (refl, refl, (refl, refl, (refl, refl, (refl, refl, (refl, refl, (refl, refl, (refl, refl, tt)))))))))))))))))))))))))))))))))))))))))))))))

pub goal_kind-place : (names : List Name) → IsTable names → (at d count : ℕ) → at < length names → at ≡ 3 + d → goal_kind (name_at names at) count ≡ kind_of (slice_get GOALS d) count
unfolding goal_kind
goal_kind-place names t at d count lt e = found-from names t at count lt 3 goals GOALS aligned ∙ kind-place 3 d GOALS at count e

pub goal_kind-before : (names : List Name) → IsTable names → (at count : ℕ) → at < length names → at < 3 → goal_kind (name_at names at) count ≡ None
unfolding goal_kind
goal_kind-before names t at count lt e = found-from names t at count lt 3 goals GOALS aligned ∙ none-before 3 GOALS at count e
