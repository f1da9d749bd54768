-- Goals of processes.
use Rattle.std.specs.Prelude.{◌≡◌, ℕ, ◌<◌, true, false, List, [], length, Some, Ok, ℤ, pos, ◌+ℤ◌}
use Rattle.std.specs.Prelude.{int_le, int_lt}
use Rattle.tp_terms.specs.declared.cells.Cell.{Cell}
use Rattle.tp_terms.specs.declared.cells.Cell.TheVariants as cell
use Rattle.tp_terms.specs.declared.cells.Ref.{Ref}
use Rattle.tp_terms.specs.Term.{Name, Term, Int, Atom}
use Rattle.tp_terms.specs.Shown.{name_at}
use Rattle.tp_meaning.specs.declared.goals.GoalKind.TheVariants.{Process}
use Rattle.tp_meaning.specs.declared.goals.ProcessGoal.{ProcessGoal}
use Rattle.tp_meaning.specs.declared.goals.ProcessGoal.TheVariants as goal
use Rattle.tp_meaning.specs.Arith.{greatest, value}
use Rattle.tp_meaning.specs.Body.{enter}
use Rattle.tp_meaning.specs.Process.{takes}
use Rattle.tp_meaning.specs.World.{box_at}
use Rattle.tp_meaning.specs.Step.{step}
use Rattle.tp_meaning.specs.Turn.{some, unified}
use Rattle.tp_store.specs.Contents.{seen, subst_of}
use Rattle.tp_machine.specs.declared.enter.Entered.{Entered}
use Rattle.tp_machine.specs.declared.enter.Entered.TheVariants as entered
use Rattle.tp_machine.specs.declared.machine.Machine.{Machine}
use Rattle.tp_machine.specs.declared.task.Task.{Task}
use Rattle.tp_machine.specs.declared.task.Call.{Call}
use Rattle.tp_machine.specs.Machine.{base_in, world_in}
use Rattle.tp_machine.specs.Meets.{Calls, IsCause, Meets, its_turn}

-- the running process's goal makes the terms of two places equal, and goes on with what is behind
-- it
pub record Unites (m : Machine) (t : Task) (left right : Ref) : Type 0 where
  pub meets : Meets m t
  pub left_there : left.at < length m.state.store.cells
  pub right_there : right.at < length m.state.store.cells
  pub gives : step (base_in m) (world_in m) ≡ some
      (unified (its_turn m t) (seen m.atoms m.state.store left.at)
      (seen m.atoms m.state.store right.at))

-- an integer, or an atom of a table with so many names
abbrev pub IsTold : ℕ → Cell → Type 0
IsTold names (cell.Int value) = Unit {0}
IsTold names (cell.Atom name) = name.at < names
IsTold names (cell.Var number) = ⊥
IsTold names (cell.Comp name first count) = ⊥

abbrev pub told_term : List Name → Cell → Term
told_term names (cell.Int value) = Int value
told_term names (cell.Atom name) = Atom (name_at names name.at)
told_term names (cell.Var number) = Atom []
told_term names (cell.Comp name first count) = Atom []

-- the running process's goal makes its first argument equal to an integer or an atom
pub record Tells (m : Machine) (t : Task) (c : Call) (k : ProcessGoal) (value : Cell) : Type 0 where
  pub calls : Calls m t c (Some (Process k))
  pub told : IsTold (length m.atoms) value
  pub gives : step (base_in m) (world_in m) ≡ some
      (unified (its_turn m t) (seen m.atoms m.state.store c.first.at) (told_term m.atoms value))

-- the running process holds for a duration, to a time within 64 bits
pub record Delays (m : Machine) (t : Task) (c : Call) (duration time : ℤ) : Type 0 where
  pub calls : Calls m t c (Some (Process goal.Hold))
  pub lasts : value (subst_of m.atoms m.state.store) (seen m.atoms m.state.store c.first.at)
      ≡ Ok duration
  pub forward : int_le (pos 0) duration ≡ true
  pub until : time ≡ m.state.clock +ℤ duration
  pub fits : int_lt greatest time ≡ false

-- the running process's goal is a `wait` whose argument was entered, and its body stands at a place
pub record ConditionStands (m : Machine) (t : Task) (c : Call) (place : Ref) : Type 0 where
  pub calls : Calls m t c (Some (Process goal.Wait))
  pub is : enter (seen m.atoms m.state.store c.first.at) ≡ Ok (seen m.atoms m.state.store place.at)
  pub within : place.at < length m.state.store.cells

-- and where it is refused, the goal raises an error
abbrev pub ConditionEntered : Machine → Task → Call → Entered → Type 0
ConditionEntered m t c (entered.Goal place) = ConditionStands m t c place
ConditionEntered m t c (entered.Refused why) = Meets m t × IsCause m t why

-- no message of the running process's box has a unifier with the argument of its `wait_for`
pub record HasNoMail (m : Machine) (t : Task) (c : Call) : Type 0 where
  pub calls : Calls m t c (Some (Process goal.WaitFor))
  pub none : takes (its_turn m t) (seen m.atoms m.state.store c.first.at) 0
      (box_at (world_in m).boxes t.process) ≡ []
