-- Bindings of variables to places.
use Rattle.std.specs.Prelude.{◌≡◌, ℕ, ◌<◌, nat_eq, true, List, [], ◌∷◌, Option, Some, None, length}
use Rattle.std.specs.Prelude.{if◌then◌else◌}
use Rattle.tp_terms.specs.declared.cells.Cell.{Cell}
use Rattle.tp_terms.specs.declared.cells.Ref.{Ref}
use Rattle.tp_terms.specs.Term.{occurs}
use Rattle.tp_terms.specs.Shown.{shows}

-- a finite map from numbers of variables to places
abbrev pub Bindings : Type 0
Bindings = List (ℕ × Ref)

-- the place that a variable is bound to, if it is bound
abbrev pub bound_in : Bindings → ℕ → Option Ref
bound_in [] number = None
bound_in (b ∷ bindings) number = if nat_eq b.0 number then Some b.1 else bound_in bindings number

-- the variable v is bound, and w occurs in what its place shows; names are no matter here
pub record LeadsAtOnce (bindings : Bindings) (cells : List Cell) (v w : ℕ) : Type 0 where
  pub place : Ref
  pub bound : bound_in bindings v ≡ Some place
  pub occurring : occurs w (shows [] cells place.at) ≡ true

-- bindings followed, one variable leads to the other in one or more steps
pub data Leads (bindings : Bindings) (cells : List Cell) : ℕ → ℕ → Type 0 where
  at_once : {v w : ℕ} → LeadsAtOnce bindings cells v w → Leads bindings cells v w
  over : {u v w : ℕ} →
      LeadsAtOnce bindings cells u v → Leads bindings cells v w → Leads bindings cells u w

-- each place is one of the cells, and no variable leads back to itself
pub record Fits (bindings : Bindings) (cells : List Cell) : Type 0 where
  pub within : (v : ℕ) (place : Ref) → bound_in bindings v ≡ Some place → place.at < length cells
  pub acyclic : (v : ℕ) → ¬ (Leads bindings cells v v)
