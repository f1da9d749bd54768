-- Goals that are entered at run time.
use Rattle.std.specs.Prelude.{◌≡◌, ◌<◌, List, length, Some, Ok, Err}
use Rattle.tp_terms.specs.declared.cells.Ref.{Ref}
use Rattle.tp_terms.specs.Term.{Name, Term}
use Rattle.tp_terms.specs.Shown.{AreNamed}
use Rattle.tp_meaning.specs.Body.{enter}
use Rattle.tp_meaning.specs.Checks.{unbound, type_error}
use Rattle.tp_meaning.specs.declared.goals.ControlGoal.{ControlGoal}
use Rattle.tp_meaning.specs.declared.goals.ControlGoal.TheVariants as control
use Rattle.tp_meaning.specs.declared.goals.GoalKind.TheVariants.{Control}
use Rattle.tp_store.specs.Contents.{Contents, AddsCells, Keeps, seen}
use Rattle.tp_machine.specs.declared.errors.Cause.TheVariants as cause
use Rattle.tp_machine.specs.declared.enter.Entered.{Entered}
use Rattle.tp_machine.specs.declared.enter.Entered.TheVariants.{Goal, Refused}
use Rattle.tp_machine.specs.declared.machine.Machine.{Machine}
use Rattle.tp_machine.specs.declared.task.Task.{Task}
use Rattle.tp_machine.specs.declared.task.Call.{Call}
use Rattle.tp_machine.specs.Machine.{IsMachine, state_in}
use Rattle.tp_machine.specs.Meets.{Calls, IsCause, Meets}

-- the goal was entered: a place of the new store shows its body, and what was there stays
pub record HasEntered (names : List Name) (old : Contents) (goal place : Ref)
    (new : Contents) : Type 0 where
  pub is : enter (seen names old goal.at) ≡ Ok (seen names new place.at)
  pub within : place.at < length new.cells
  pub adds : AddsCells old new
  pub keeps : Keeps old new
  pub named : AreNamed (length names) new.cells

-- the goal is refused by an error of this kind, and nothing changed
pub record IsRefused (names : List Name) (old : Contents) (goal : Ref) (kind : Term)
    (new : Contents) : Type 0 where
  pub is : enter (seen names old goal.at) ≡ Err kind
  pub same : new ≡ old

-- what came of a goal: it is entered, or refused where it is unbound or has no body
abbrev pub Enters : List Name → Contents → Ref → Entered → Contents → Type 0
Enters names old goal (Goal place) new = HasEntered names old goal place new
Enters names old goal (Refused cause.Unbound) new = IsRefused names old goal unbound new
Enters names old goal (Refused (cause.NotCallable culprit)) new = (culprit ≡ goal) ×
    IsRefused names old goal (type_error "callable" (seen names old goal.at)) new
Enters names old goal (Refused _) new = ⊥

-- ---- the machine

-- the machine has another state, which stands for the same world
pub record Rests (old new : Machine) : Type 0 where
  pub is : new ≡ record old { state = new.state }
  pub state : state_in new ≡ state_in old
  pub machine : IsMachine new

-- control goals that enter their argument
abbrev pub EntersFirst : ControlGoal → Type 0
EntersFirst control.NotProvable = Unit {0}
EntersFirst control.Once = Unit {0}
EntersFirst _ = ⊥

-- the first argument of the running process's goal was entered, and its body stands at a place
pub record FirstStands (m : Machine) (t : Task) (c : Call) (goal : ControlGoal)
    (place : Ref) : Type 0 where
  pub calls : Calls m t c (Some (Control goal))
  pub is : enter (seen m.atoms m.state.store c.first.at) ≡ Ok (seen m.atoms m.state.store place.at)
  pub within : place.at < length m.state.store.cells

-- and where it is refused, the goal raises an error
abbrev pub FirstEntered : Machine → Task → Call → ControlGoal → Entered → Type 0
FirstEntered m t c goal (Goal place) = FirstStands m t c goal place
FirstEntered m t c goal (Refused why) = Meets m t × IsCause m t why
