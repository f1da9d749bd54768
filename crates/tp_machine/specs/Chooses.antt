-- Goals that gave two worlds.
use Rattle.std.specs.Prelude.{◌≡◌, ◌<◌, true, length, Some}
use Rattle.tp_terms.specs.declared.cells.Ref.{Ref}
use Rattle.tp_terms.specs.Term.{atom}
use Rattle.tp_meaning.specs.declared.goals.GoalKind.{GoalKind}
use Rattle.tp_meaning.specs.declared.goals.GoalKind.TheVariants.{Control, Process}
use Rattle.tp_meaning.specs.declared.goals.ProcessGoal.TheVariants.{Wait}
use Rattle.tp_meaning.specs.declared.goals.ControlGoal.{ControlGoal}
use Rattle.tp_store.specs.Contents.{seen}
use Rattle.tp_machine.specs.declared.machine.Machine.{Machine}
use Rattle.tp_machine.specs.declared.task.Task.{Task}
use Rattle.tp_machine.specs.declared.task.Call.{Call}
use Rattle.tp_machine.specs.Machine.{has_second}
use Rattle.tp_machine.specs.Meets.{Calls}

-- the running process stands at a control goal of this kind, which gives two worlds
pub record Chooses (m : Machine) (t : Task) (c : Call) (k : ControlGoal) : Type 0 where
  pub two : has_second k ≡ true
  pub calls : Calls m t c (Some (Control k))

-- the same, or at a `wait`, by the kind that the table of goals has
pub data ChoosesBy (m : Machine) (t : Task) (c : Call) (k : GoalKind) : Type 0 where
  by_control : (control : ControlGoal) → k ≡ Control control → Chooses m t c control →
      ChoosesBy m t c k
  by_wait : k ≡ Process Wait → Calls m t c (Some (Process Wait)) → ChoosesBy m t c k

-- `fail` stands at a place
pub record HasFailure (m : Machine) (place : Ref) : Type 0 where
  pub within : place.at < length m.state.store.cells
  pub is : seen m.atoms m.state.store place.at ≡ atom "fail"
