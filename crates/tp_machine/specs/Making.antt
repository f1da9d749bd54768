-- Processes that are made.
use Rattle.std.specs.Prelude.{◌≡◌, ℕ, ◌+◌, ◌<◌, false, [], ◌∷◌, length, Some, None, Ok, Err, Result}
use Rattle.std.specs.Prelude.{ℤ, int_lt}
use Rattle.tp_terms.specs.declared.Limit.TheVariants.{At}
use Rattle.tp_terms.specs.declared.cells.AtomId.{AtomId}
use Rattle.tp_terms.specs.declared.cells.Ref.{Ref}
use Rattle.tp_terms.specs.Term.{Term, comp}
use Rattle.tp_terms.specs.Shown.{name_at}
use Rattle.tp_procs.specs.Processes.{named}
use Rattle.tp_meaning.specs.declared.goals.GoalKind.TheVariants.{Process}
use Rattle.tp_meaning.specs.declared.goals.ProcessGoal.TheVariants.{New}
use Rattle.tp_meaning.specs.Arith.{value}
use Rattle.tp_meaning.specs.Checks.{bound, callable}
use Rattle.tp_meaning.specs.Process.{end_of, new_name}
use Rattle.tp_store.specs.Contents.{seen, subst_of}
use Rattle.tp_machine.specs.declared.errors.Cause.{Cause}
use Rattle.tp_machine.specs.declared.machine.Machine.{Machine}
use Rattle.tp_machine.specs.declared.making.Ending.{Ending}
use Rattle.tp_machine.specs.declared.making.Ending.TheVariants as ending
use Rattle.tp_machine.specs.declared.making.NewProcess.{NewProcess}
use Rattle.tp_machine.specs.declared.task.Task.{Task}
use Rattle.tp_machine.specs.declared.task.Call.{Call}
use Rattle.tp_machine.specs.declared.values.Given.{Given}
use Rattle.tp_machine.specs.declared.values.Given.TheVariants as given
use Rattle.tp_machine.specs.Machine.{world_in}
use Rattle.tp_machine.specs.Meets.{Calls, Fails, IsCause, Meets}

-- the term of an argument, the first of which is that of 0
abbrev pub shown_at : Machine → Call → ℕ → Term
shown_at m c n = seen m.atoms m.state.store (c.first.at + n)

-- ---- its name

-- the atom that a place shows may be the name of a new process, or why it may not
abbrev pub IsFree : Machine → Ref → Result AtomId Cause → Type 0
IsFree m place (Ok name) = (name.at < length m.atoms) × (named name m.state.procs ≡ None) ×
    (new_name (world_in m) (seen m.atoms m.state.store place.at) ≡ Ok (name_at m.atoms name.at))
IsFree m place (Err why) = Fails m (new_name (world_in m) (seen m.atoms m.state.store place.at)) why

-- the running process's `new` has a goal that may be called, and a name that no process has
pub record HasName (m : Machine) (t : Task) (c : Call) (name : AtomId) : Type 0 where
  pub calls : Calls m t c (Some (Process New))
  pub is_bound : bound (seen m.atoms m.state.store c.first.at) ≡ Ok tt
  pub is_callable : callable (seen m.atoms m.state.store c.first.at) ≡ Ok tt
  pub is_named : new_name (world_in m) (shown_at m c 1) ≡ Ok (name_at m.atoms name.at)
  pub within : name.at < length m.atoms
  pub free : named name m.state.procs ≡ None

-- or it raises an error
abbrev pub IsName : Machine → Task → Call → Result AtomId Cause → Type 0
IsName m t c (Ok name) = HasName m t c name
IsName m t c (Err why) = IsCause m t why

-- ---- its times

-- and a time from now on, when the process starts
pub record HasStart (m : Machine) (t : Task) (c : Call) (name : AtomId) (start : ℤ) : Type 0 where
  pub named : HasName m t c name
  pub starts : value (subst_of m.atoms m.state.store) (shown_at m c 2) ≡ Ok start
  pub timely : int_lt start m.state.clock ≡ false

-- or it raises an error
abbrev pub IsStart : Machine → Task → Call → AtomId → Given → Type 0
IsStart m t c name (given.Time start) = HasStart m t c name start
IsStart m t c name (given.Refused why) = Meets m t × IsCause m t why

-- and a time from then on, when it ends, or no end
pub record HasEnd (m : Machine) (t : Task) (c : Call) (new : NewProcess) : Type 0 where
  pub start : HasStart m t c new.name new.start
  pub ends : end_of (world_in m) new.start (shown_at m c 3) ≡ Ok new.end

-- or it raises an error
abbrev pub IsEnd : Machine → Task → Call → AtomId → ℤ → Ending → Type 0
IsEnd m t c name start (ending.Ends end) =
    HasEnd m t c (record { name = name; start = start; end = end })
IsEnd m t c name start (ending.Refused why) = Meets m t × IsCause m t why

-- the end at a time that a goal gives
abbrev pub ending_by : Given → Ending
ending_by (given.Time time) = ending.Ends (At time)
ending_by (given.Refused why) = ending.Refused why

-- ---- its goal

-- the goal that the new process begins with stands at a place
pub record HasGoal (m : Machine) (t : Task) (c : Call) (new : NewProcess) (goal : Ref)
    : Type 0 where
  pub end : HasEnd m t c new
  pub within : goal.at < length m.state.store.cells
  pub is : seen m.atoms m.state.store goal.at
      ≡ comp "call" (seen m.atoms m.state.store c.first.at ∷ [])
