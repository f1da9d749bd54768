-- The goals that the language has of its own: control goals, process goals and built-ins. No clause
-- may define them.
use Rattle.std.specs.Prelude.{ℕ, Bool, nat_le, ◌&&◌, List, [], ◌∷◌, Option, Some, None, is_some}
use Rattle.std.specs.Prelude.{if◌then◌else◌, codes}
use Prim.Native.String.{String}
use Rattle.tp_terms.specs.Term.{Name, names_eq}
pub use Rattle.tp_meaning.specs.declared.goals.GoalKind.{GoalKind}
pub use Rattle.tp_meaning.specs.declared.goals.GoalKind.TheVariants.{Control, Process, BuiltIn}
use Rattle.tp_meaning.specs.declared.goals.ControlGoal.TheVariants as control
use Rattle.tp_meaning.specs.declared.goals.ProcessGoal.TheVariants as process
use Rattle.tp_meaning.specs.declared.goals.BuiltId.TheVariants as built

-- goals of one name, the fewest and the most arguments that they have, and their kind
pub record GoalRow : Type 0 where
  pub name : Name
  pub least : ℕ
  pub most : ℕ
  pub kind : GoalKind

abbrev pub row : String → ℕ → GoalKind → GoalRow
row name count kind = record { name = codes name; least = count; most = count; kind = kind }

abbrev pub row_to : String → ℕ → ℕ → GoalKind → GoalRow
row_to name least most kind = record { name = codes name; least = least; most = most; kind = kind }

-- one row for each name
unfoldable pub goals : List GoalRow
goals =
    row "true" 0 (Control control.True)
    ∷ row "fail" 0 (Control control.Fail)
    ∷ row "," 2 (Control control.Conjunction)
    ∷ row "!" 0 (Control control.Cut)
    ∷ row ";" 2 (Control control.Disjunction)
    ∷ row "->" 2 (Control control.IfThen)
    ∷ row "\\+" 1 (Control control.NotProvable)
    ∷ row_to "call" 1 8 (Control control.Call)
    ∷ row "once" 1 (Control control.Once)
    ∷ row "repeat" 0 (Control control.Repeat)
    ∷ row "between" 3 (Control control.Between)
    ∷ row "new" 4 (Process process.New)
    ∷ row "hold" 1 (Process process.Hold)
    ∷ row "send" 2 (Process process.Send)
    ∷ row "wait_for" 1 (Process process.WaitFor)
    ∷ row "wait" 1 (Process process.Wait)
    ∷ row "now" 1 (Process process.Now)
    ∷ row "self" 1 (Process process.OwnName)
    ∷ row "note" 1 (Process process.Note)
    ∷ row "var" 1 (BuiltIn built.Var)
    ∷ row "nonvar" 1 (BuiltIn built.Nonvar)
    ∷ row "atom" 1 (BuiltIn built.Atom)
    ∷ row "integer" 1 (BuiltIn built.Integer)
    ∷ row "atomic" 1 (BuiltIn built.Atomic)
    ∷ row "compound" 1 (BuiltIn built.Compound)
    ∷ row "callable" 1 (BuiltIn built.Callable)
    ∷ row "=" 2 (BuiltIn built.Unify)
    ∷ row "\\=" 2 (BuiltIn built.NotUnifiable)
    ∷ row "==" 2 (BuiltIn built.Same)
    ∷ row "\\==" 2 (BuiltIn built.NotSame)
    ∷ row "@<" 2 (BuiltIn built.Before)
    ∷ row "@=<" 2 (BuiltIn built.BeforeOrSame)
    ∷ row "@>" 2 (BuiltIn built.After)
    ∷ row "@>=" 2 (BuiltIn built.AfterOrSame)
    ∷ row "is" 2 (BuiltIn built.Is)
    ∷ row "=:=" 2 (BuiltIn built.NumberEqual)
    ∷ row "=\\=" 2 (BuiltIn built.NumberUnequal)
    ∷ row "<" 2 (BuiltIn built.Less)
    ∷ row "=<" 2 (BuiltIn built.LessEqual)
    ∷ row ">" 2 (BuiltIn built.Greater)
    ∷ row ">=" 2 (BuiltIn built.GreaterEqual)
    ∷ row "functor" 3 (BuiltIn built.Functor)
    ∷ row "arg" 3 (BuiltIn built.Arg)
    ∷ row "=.." 2 (BuiltIn built.Univ)
    ∷ row "copy_term" 2 (BuiltIn built.CopyTerm)
    ∷ row "atom_length" 2 (BuiltIn built.AtomLength)
    ∷ row "atom_codes" 2 (BuiltIn built.AtomCodes)
    ∷ []

-- a row has this number of arguments
abbrev pub has_count : GoalRow → ℕ → Bool
has_count r count = nat_le r.least count && nat_le count r.most

-- the kind of the first of some rows that has a name and a number of arguments
abbrev pub found_in : List GoalRow → Name → ℕ → Option GoalKind
found_in [] name count = None
found_in (r ∷ rows) name count =
    if names_eq name r.name && has_count r count then Some r.kind else found_in rows name count

-- the kind of goals with the fewest and the most arguments that they have, where this number of
-- arguments fits
abbrev pub kind_of_row : ℕ × ℕ × GoalKind → ℕ → Option GoalKind
kind_of_row row count = if nat_le row.0 count && nat_le count row.1 then Some row.2 else None

-- the kind of the goals of a name and a number of arguments, where the language has them of its own
unfoldable pub goal_kind : Name → ℕ → Option GoalKind
goal_kind = found_in goals

-- no clause may define them
abbrev pub is_reserved : Name → ℕ → Bool
is_reserved name count = is_some (goal_kind name count)
