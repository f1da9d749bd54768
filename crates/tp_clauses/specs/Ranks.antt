-- The place of a clause among those of its predicate.
use Rattle.std.specs.Prelude.{◌≡◌, ℕ, suc, ◌≤◌, Bool, true, false, List, [], ◌∷◌, length, slice_get}
use Rattle.std.specs.Prelude.{Option, Some, None}
use Rattle.tp_terms.specs.declared.cells.Cell.{Cell}
use Rattle.tp_terms.specs.declared.cells.AtomId.{AtomId}
use Rattle.tp_clauses.specs.Contents.{Contents, is_of, places_of}
use Rattle.tp_clauses.specs.declared.base.ClauseId.{ClauseId}
use Rattle.tp_clauses.specs.declared.base.ClauseView.{ClauseView}

-- a clause has this name and number of arguments
abbrev pub is_view_of : AtomId → ℕ → List Cell → Option ClauseView → Bool
is_view_of name arity cells None = false
is_view_of name arity cells (Some v) = is_of name arity cells v

abbrev pub is_clause_of : AtomId → ℕ → Contents → ClauseId → Bool
is_clause_of name arity c id = is_view_of name arity c.cells (slice_get c.clauses id.at)

-- the place of a clause among the clauses of its name and number of arguments, from 0
abbrev pub IsRank : Contents → ClauseId → ℕ → Type 0
IsRank c id rank = (name : AtomId) (arity : ℕ) → is_clause_of name arity c id ≡ true →
    slice_get (places_of name arity c) rank ≡ Some id

-- the ranks of all clauses
pub record AreRanks (c : Contents) (ranks : List ℕ) : Type 0 where
  pub count : length ranks ≡ length c.clauses
  pub each : (id : ClauseId) (rank : ℕ) → slice_get ranks id.at ≡ Some rank → IsRank c id rank

-- places in text order, none before a place
abbrev pub Rises : ℕ → List ClauseId → Type 0
Rises low [] = Unit {0}
Rises low (id ∷ ids) = (low ≤ id.at) × Rises (suc id.at) ids
