-- The clauses that a goal is tried with, one after another.
use Rattle.std.specs.Prelude.{◌≡◌, ℕ, ◌<◌, Bool, false, List, [], ◌∷◌, ◌++◌, drop, filter, length}
use Rattle.std.specs.Prelude.{slice_get, Option, Some, None}
use Rattle.std.specs.Option.{option_map, option_map_or}
use Rattle.tp_terms.specs.declared.cells.Ref.{Ref}
use Rattle.tp_control.specs.declared.choices.Choice.{Choice}
use Rattle.tp_meaning.specs.Clauses.{Clause}
use Rattle.tp_clauses.specs.declared.base.ClauseId.{ClauseId}
use Rattle.tp_clauses.specs.Contents.{clause_of, places_of}
use Rattle.tp_machine.specs.declared.machine.Machine.{Machine}
use Rattle.tp_machine.specs.declared.task.Task.{Task}
use Rattle.tp_machine.specs.declared.task.Call.{Call}
use Rattle.tp_machine.specs.Heads.{hits}
use Rattle.tp_machine.specs.Meets.{Calls}

-- the clause of a place of the base
abbrev pub clause_at : Machine → ClauseId → Option Clause
clause_at m id =
    option_map (clause_of m.atoms m.base.now.cells) (slice_get m.base.now.clauses id.at)

-- its head has a unifier with a goal
abbrev pub hits_at : Machine → Ref → ClauseId → Bool
hits_at m goal id = option_map_or (hits m.atoms m.state.store goal.at) (clause_at m id) false

-- the places of the clauses of a goal's name and number of arguments
abbrev pub places_in : Machine → Call → List ClauseId
places_in m c = places_of c.name c.count m.base.now

-- places of clauses
abbrev pub AreClauses : Machine → List ClauseId → Type 0
AreClauses m ids = (k : ℕ) (id : ClauseId) → slice_get ids k ≡ Some id →
    id.at < length m.base.now.clauses

-- Of a goal's clauses from one of them on, in text order, all but some that have no unifier with
-- it.
pub record AreTried (m : Machine) (t : Task) (c : Call) (from : ℕ) (ids : List ClauseId)
    : Type 0 where
  pub tried : ClauseId → Bool
  pub places : ids ≡ filter tried (drop from (places_in m c))
  pub others : (id : ClauseId) → tried id ≡ false → hits_at m t.goal id ≡ false

-- the clauses that a goal is tried with, whatever goal shows the call
abbrev pub Tries : Machine → Call → List ClauseId → Type 0
Tries m c ids = (t : Task) → Calls m t c None → AreTried m t c 0 ids

-- clauses that a goal is still to be tried with
pub record StillTries (m : Machine) (t : Task) (ids : List ClauseId) : Type 0 where
  pub call : Call
  pub calls : Calls m t call None
  pub from : ℕ
  pub rest : AreTried m t call from ids

-- the clauses that a goal is tried with, from the first on
pub record TriesAll (m : Machine) (t : Task) (ids : List ClauseId) : Type 0 where
  pub call : Call
  pub calls : Calls m t call None
  pub all : AreTried m t call 0 ids

-- those behind the first, which has no unifier with the goal
pub record MissesFirst (m : Machine) (t : Task) (ids : List ClauseId) : Type 0 where
  pub first : ClauseId
  pub tries : TriesAll m t (first ∷ ids)
  pub misses : hits_at m t.goal first ≡ false

-- a choice was kept where a clause was found, and else none
abbrev pub HasPushed : Option ℕ → List Choice → List Choice → Type 0
HasPushed None old new = new ≡ old
HasPushed (Some next) old new = (c : Choice) × (new ≡ old ++ c ∷ [])

-- a clause of a goal is the one of this place among all of them
pub record IsPlaced (m : Machine) (t : Task) (c : Call) (place : ℕ) (id : ClauseId) : Type 0 where
  pub calls : Calls m t c None
  pub there : slice_get (places_in m c) place ≡ Some id
