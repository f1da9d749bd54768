-- What holds of each world of a state.
use Rattle.std.specs.Prelude.{ℕ, ◌≤◌}
use Rattle.std.specs.List.{AllByRecursion}
use Rattle.tp_meaning.specs.Search.{Step, Success, Dead, Raise, Commit, Branch}
use Rattle.tp_meaning.specs.Machine.{Choice, State}
use Rattle.tp_meaning.specs.World.{World}
use Rattle.tp_meaning.specs.Valid.{Valid}

-- each world that a step gives has P
abbrev pub EachHolds : {W E : Type 0} → (W → Type 0) → Step W E → Type 0
EachHolds P Success = Unit {0}
EachHolds P (Dead c) = Unit {0}
EachHolds P (Raise e) = Unit {0}
EachHolds P (Commit c v) = P v
EachHolds P (Branch v more) = P v × AllByRecursion P more

-- the world of a choice, and its untried worlds, have P
abbrev pub ChoiceHolds : {W : Type 0} → (W → Type 0) → Choice W → Type 0
ChoiceHolds P c = P c.world × AllByRecursion P c.untried

-- the current world and the choices
pub record Holds {W : Type 0} (P : W → Type 0) (s : State W) : Type 0 where
  pub world : P s.world
  pub choices : AllByRecursion (ChoiceHolds P) s.choices

-- a valid world with at least so many variables
pub record Stands (n : ℕ) (w : World) : Type 0 where
  pub valid : Valid w
  pub vars : n ≤ w.next
