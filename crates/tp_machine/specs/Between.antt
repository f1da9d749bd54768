-- Goals that count from one number to another.
use Rattle.std.specs.Prelude.{◌≡◌, ℕ, ◌+◌, ◌<◌, ◌≤◌, true, is_some, List, length, Some, Ok, Err}
use Rattle.std.specs.Prelude.{Result, ℤ, pos, ◌+ℤ◌}
use Rattle.tp_terms.specs.declared.cells.Ref.{Ref}
use Rattle.tp_terms.specs.Term.{Name, Term, Var, Int, Comp, NoMore, More}
use Rattle.tp_terms.specs.Shown.{name_at, shows, AreNamed}
use Rattle.tp_meaning.specs.Checks.{integer_given, unbound, type_error}
use Rattle.tp_meaning.specs.Control as meaning
use Rattle.tp_meaning.specs.Subst.{mgu}
use Rattle.tp_meaning.specs.Turn.{Turn}
use Rattle.tp_meaning.specs.declared.goals.GoalKind.TheVariants.{Control}
use Rattle.tp_meaning.specs.declared.goals.ControlGoal.TheVariants as control
use Rattle.tp_store.specs.Contents.{Contents, args_seen, subst_of, seen}
use Rattle.tp_machine.specs.declared.errors.Cause.{Cause}
use Rattle.tp_machine.specs.declared.errors.Cause.TheVariants as cause
use Rattle.tp_machine.specs.declared.machine.Machine.{Machine}
use Rattle.tp_machine.specs.declared.numbers.Bounds.{Bounds}
use Rattle.tp_machine.specs.declared.task.Task.{Task}
use Rattle.tp_machine.specs.declared.task.Call.{Call}
use Rattle.tp_machine.specs.Meets.{Calls, IsCause}

-- the integer that a place shows, or the error that it raises where an integer is wanted
abbrev pub IsGiven : List Name → Contents → Ref → Result ℤ Cause → Type 0
IsGiven names c at (Ok z) = seen names c at.at ≡ Int z
IsGiven names c at (Err cause.Unbound) = integer_given (seen names c at.at) ≡ Err unbound
IsGiven names c at (Err (cause.NotInteger term)) = (term ≡ at) ×
    (integer_given (seen names c at.at) ≡ Err (type_error "integer" (seen names c at.at)))
IsGiven names c at (Err _) = ⊥

-- the running process stands at a `between` with these numbers
pub record Bounded (m : Machine) (t : Task) (c : Call) (b : Bounds) : Type 0 where
  pub calls : Calls m t c (Some (Control control.Between))
  pub low : seen m.atoms m.state.store c.first.at ≡ Int b.low
  pub high : seen m.atoms m.state.store (c.first.at + 1) ≡ Int b.high

-- or it raises an error of this kind
pub record Unbounded (m : Machine) (t : Task) (c : Call) (why : Cause) : Type 0 where
  pub cause : IsCause m t why
  pub kind : Term
  pub gives : (w : Turn) (k : ℕ) → meaning.control w k control.Between
      (name_at m.atoms c.name.at) (args_seen m.atoms m.state.store c.first.at c.count) ≡ Err kind

-- the numbers of a `between`, or the error that it raises
abbrev pub HasBounds : Machine → Task → Call → Result Bounds Cause → Type 0
HasBounds m t c (Ok b) = Bounded m t c b
HasBounds m t c (Err why) = Unbounded m t c why

-- with these numbers, its third argument is a number
pub record Tests (m : Machine) (t : Task) (c : Call) (b : Bounds) (value : ℤ) : Type 0 where
  pub bounded : Bounded m t c b
  pub number : seen m.atoms m.state.store (c.first.at + 2) ≡ Int value

-- with these numbers, its third argument is an unbound variable
pub record Counts (m : Machine) (t : Task) (c : Call) (b : Bounds) (variable : Ref) : Type 0 where
  pub bounded : Bounded m t c b
  pub place : variable.at ≡ c.first.at + 2
  pub unbound : (v : ℕ) × (seen m.atoms m.state.store variable.at ≡ Var v)

-- the term of a place was made equal to a term, where they have a unifier
pub record Equals (names : List Name) (at : ℕ) (t : Term) (old new : Contents) : Type 0 where
  pub unified : is_some (mgu (subst_of names old) (shows names old.cells at) t) ≡ true →
      mgu (subst_of names old) (shows names old.cells at) t ≡ Some (subst_of names new)
  pub vars : new.vars ≡ old.vars
  pub longer : length old.cells ≤ length new.cells
  pub kept : (k : ℕ) → k < length old.cells → shows names new.cells k ≡ shows names old.cells k
  pub atoms : AreNamed (length names) new.cells

-- the goal that counts from the number behind the first
abbrev pub next_term : List Name → Contents → Call → Bounds → Term
next_term names c call b = Comp (name_at names call.name.at)
    (More (Int (b.low +ℤ pos 1)) (More (Int b.high)
    (More (shows names c.cells (call.first.at + 2)) NoMore)))
