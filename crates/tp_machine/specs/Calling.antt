-- Goals that `call` enters.
use Rattle.std.specs.Prelude.{◌≡◌, ℕ, ◌+◌, ◌<◌, ◌∷◌, length, Some, Ok}
use Rattle.tp_terms.specs.declared.cells.Ref.{Ref}
use Rattle.tp_terms.specs.Shown.{name_at}
use Rattle.tp_meaning.specs.declared.goals.GoalKind.TheVariants.{Control}
use Rattle.tp_meaning.specs.declared.goals.ControlGoal.TheVariants as control
use Rattle.tp_meaning.specs.Checks.{Checked}
use Rattle.tp_meaning.specs.Control.{control, called}
use Rattle.tp_meaning.specs.Turn.{Turn, Gives, going, one}
use Rattle.tp_meaning.specs.World as world
use Rattle.tp_store.specs.Contents.{seen, args_seen}
use Rattle.tp_machine.specs.declared.enter.Entered.{Entered}
use Rattle.tp_machine.specs.declared.enter.Entered.TheVariants.{Goal, Refused}
use Rattle.tp_machine.specs.declared.machine.Machine.{Machine}
use Rattle.tp_machine.specs.declared.task.Task.{Task}
use Rattle.tp_machine.specs.declared.task.Call.{Call}
use Rattle.tp_machine.specs.Meets.{Calls, IsCause, Meets}

-- what the running process's `call` gives, in a turn of its process with a barrier
abbrev pub call_gives : Machine → Call → Turn → ℕ → Checked Gives
call_gives m c w b = control w b control.Call (name_at m.atoms c.name.at)
    (args_seen m.atoms m.state.store c.first.at c.count)

-- `call` gives, with all its arguments, what it gives of the goal of this place alone
pub record CallsGoal (m : Machine) (t : Task) (c : Call) (goal : Ref) : Type 0 where
  pub calls : Calls m t c (Some (Control control.Call))
  pub within : goal.at < length m.state.store.cells
  pub is : (w : Turn) (b : ℕ) → call_gives m c w b ≡ called w (seen m.atoms m.state.store goal.at)

-- and it goes on with the body of this place, whose cuts reach no further
pub record CallStands (m : Machine) (t : Task) (c : Call) (place : Ref) : Type 0 where
  pub calls : Calls m t c (Some (Control control.Call))
  pub within : place.at < length m.state.store.cells
  pub is : (w : Turn) (b : ℕ) → call_gives m c w b
      ≡ Ok (one
      (going w (world.Goal (seen m.atoms m.state.store place.at) (w.world.stamp + 1) ∷ w.rest)))

-- where the goal is refused, `call` raises an error
abbrev pub CallEntered : Machine → Task → Call → Entered → Type 0
CallEntered m t c (Goal place) = CallStands m t c place
CallEntered m t c (Refused why) = Meets m t × IsCause m t why
