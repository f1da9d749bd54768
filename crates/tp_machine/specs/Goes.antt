-- Parts of a step: a choice that is kept, and contents that the machine goes on to.
use Rattle.std.specs.Prelude.{◌≡◌, ℕ, ◌+◌, ◌<◌, ◌^◌, ◌-◌, List, ◌∷◌, length, Some, IfSome}
use Rattle.tp_terms.specs.Names.{IsTable, Grows}
use Rattle.tp_meaning.specs.World.{World}
use Rattle.tp_meaning.specs.Machine.{IsChoice, with_choice}
use Rattle.tp_meaning.specs.Step.{searched}
use Rattle.tp_meaning.specs.Holds.{ChoiceHolds, Stands}
use Rattle.tp_control.specs.declared.choices.Alt.{Alt}
use Rattle.tp_control.specs.declared.choices.Alt.TheVariants.{Clause, Second}
use Rattle.tp_machine.specs.declared.machine.Machine.{Machine}
use Rattle.tp_control.specs.Stamps.{newest}
use Rattle.tp_state.specs.Going.{IsSafe, Follows}
use Rattle.tp_state.specs.State.{plain_of, held_of}
use Rattle.tp_state.specs.Stands.{PlainStands}
use Rattle.tp_machine.specs.Untried.{untried}
use Rattle.tp_machine.specs.Machine.{ChoicesFit, GoesOn, IsMachine, Resumes, base_in, choices_in}
use Rattle.tp_machine.specs.Machine.{choices_of, open_at, world_in}

-- what is next in the machine's world
abbrev pub untried_in : Machine → Alt → List World
untried_in m next = untried (base_in m) (world_in m) next

-- a choice of the machine's world may be kept
pub record MayKeep (m : Machine) (next : Alt) : Type 0 where
  pub stands : PlainStands m.atoms (plain_of m.state)
  pub goes_on : GoesOn m.atoms (base_in m) (plain_of m.state) next
  pub safe : IsSafe (held_of m.state)
  pub choices : ChoicesFit m.atoms (base_in m) (held_of m.state) m.choices
  pub below : IfSome (newest m.choices) (λ c. c.stamp < m.stamp)
  pub left : 0 < length (untried_in m next)

-- a choice of these worlds was kept, where there are any; all else stays
pub record KeepsWorlds (old : Machine) (more : List World) (new : Machine) : Type 0 where
  pub same : new ≡ record old { choices = new.choices }
  pub fits : ChoicesFit old.atoms (base_in old) (held_of old.state) new.choices
  pub kept : choices_of old.atoms (base_in old) (held_of old.state) new.choices
      ≡ with_choice old.stamp (world_in old) more (choices_in old)

-- a choice of what is next was kept
abbrev pub IsKept : Machine → Alt → Machine → Type 0
IsKept old next new = KeepsWorlds old (untried_in old next) new

-- The machine goes on to contents with the next stamp. Names may be added; base, goal and choices
-- stay.
pub record Goes (old new : Machine) : Type 0 where
  pub same : new ≡ record old { atoms = new.atoms; state = new.state; stamp = new.stamp }
  pub names : Grows old.atoms new.atoms
  pub table : IsTable new.atoms
  pub stands : PlainStands new.atoms (plain_of new.state)
  pub follows : Follows (held_of old.state) (held_of new.state)
  pub stamp : new.stamp ≡ old.stamp + 1

-- the clause at a place was entered: its world is the first of those from there on
pub record Enters (old : Machine) (place : ℕ) (new : Machine) : Type 0 where
  pub goes : Goes old new
  pub world : untried_in old (Clause place) ≡ world_in new ∷ untried_in old (Clause (place + 1))

-- a machine that went back, and takes what is next
pub record Returns (m : Machine) (next : Alt) : Type 0 where
  pub machine : IsMachine m
  pub goes_on : GoesOn m.atoms (base_in m) (plain_of m.state) next
  pub open_ : IsChoice (searched (base_in m)) (m.stamp + 1)
      (open_at (base_in m) (world_in m) m.stamp next)
  pub worlds : ChoiceHolds (Stands m.goal.now.vars) (open_at (base_in m) (world_in m) m.stamp next)
  pub few : m.stamp < 2 ^ 64 - 1

-- The machine went back to a choice with a second world, and goes on with that.
abbrev pub ResumesSecond : Machine → Machine → Type 0
ResumesSecond old new = Resumes (record old { waiting = Some Second }) new
