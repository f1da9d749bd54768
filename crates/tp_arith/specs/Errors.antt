-- The errors of arithmetic, as kinds of error terms.
use Rattle.std.specs.Prelude.{◌≡◌, ◌<◌, ℕ, ℤ, List, length, Result, Ok, Err}
use Rattle.tp_terms.specs.Term.{Name, Term}
use Rattle.tp_terms.specs.Shown.{name_at}
use Rattle.tp_meaning.specs.Checks.{Checked, evaluation_error, unbound}
use Rattle.tp_meaning.specs.Arith.{not_evaluable}
use Rattle.tp_arith.specs.declared.stop.EvaluationError.{EvaluationError}
use Rattle.tp_arith.specs.declared.stop.EvaluationError.TheVariants.{Overflow, ZeroDivisor}
use Rattle.tp_arith.specs.declared.stop.EvaluationError.TheVariants.{Undefined}
use Rattle.tp_arith.specs.declared.stop.Fault.{Fault}
use Rattle.tp_arith.specs.declared.stop.Fault.TheVariants.{Unbound, NotEvaluable, Evaluation}

-- the kind of an error
abbrev pub evaluation_kind : EvaluationError → Term
evaluation_kind Overflow = evaluation_error "int_overflow"
evaluation_kind ZeroDivisor = evaluation_error "zero_divisor"
evaluation_kind Undefined = evaluation_error "undefined"

-- a value, or the kind of the error
abbrev pub told : {A : Type 0} → Result A EvaluationError → Checked A
told (Ok a) = Ok a
told (Err e) = Err (evaluation_kind e)

-- the kind of a fault, under a table of names
abbrev pub fault_kind : List Name → Fault → Term
fault_kind names Unbound = unbound
fault_kind names (NotEvaluable name count) = not_evaluable (name_at names name.at) count
fault_kind names (Evaluation e) = evaluation_kind e

-- its atom is one of so many names
abbrev pub FaultStands : ℕ → Fault → Type 0
FaultStands names Unbound = Unit {0}
FaultStands names (NotEvaluable name count) = name.at < names
FaultStands names (Evaluation e) = Unit {0}

-- a term has no value, and this is why
pub record IsFault (names : List Name) (c : Checked ℤ) (fault : Fault) : Type 0 where
  pub kind : c ≡ Err (fault_kind names fault)
  pub stands : FaultStands (length names) fault
