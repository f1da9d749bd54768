-- The argument that `arg` asks for, and the compounds that `functor` makes.
use Rattle.std.specs.Prelude.{◌≡◌, ℕ, zero, suc, ◌+◌, ◌<◌, ◌≤◌, List, [], ◌∷◌, ◌++◌, length, Option}
use Rattle.std.specs.Prelude.{Some, None, Result, Ok, Err}
use Rattle.tp_terms.specs.declared.cells.Ref.{Ref}
use Rattle.tp_terms.specs.declared.cells.Cell.{Cell}
use Rattle.tp_terms.specs.declared.cells.Cell.TheVariants as cell
use Rattle.tp_terms.specs.Term.{Term, Comp}
use Rattle.tp_terms.specs.Shown.{name_at}
use Rattle.tp_meaning.specs.Subst.{Subst}
use Rattle.tp_meaning.specs.Checks.{Checked, ◌>>=◌, ◌>>◌, bound, integer, atomic}
use Rattle.tp_meaning.specs.Heap.{Heap, seen, shown}
use Rattle.tp_meaning.specs.Answers.{No, unifies, arg, variables_from}
use Rattle.tp_build.specs.declared.errors.Fault.{Fault}
use Rattle.tp_build.specs.Errors.{IsFault}
use Rattle.tp_build.specs.Names.{natural_in, fitting_arity}

-- the place of the argument of a number from 1, where so many stand from a place on
abbrev pub IsNth : ℕ → ℕ → ℕ → Option Ref → Type 0
IsNth first count number (Some place) =
    (0 < number) × (number ≤ count) × (place.at + 1 ≡ first + number)
IsNth first count number None = 0 < number → count < number

-- the place of the argument that is unified; none, where the goal fails; or the goal's error
abbrev pub Picks : Heap → ℕ → ℕ → Result (Option Ref) Fault → Type 0
Picks h n t (Ok (Some place)) =
    (place.at < length h.cells)
    × ((s : Subst) (next : ℕ) (x : Term) →
    arg s next (seen h n) (seen h t) x ≡ Ok (unifies s next x (seen h place.at)))
Picks h n t (Ok None) =
    (s : Subst) (next : ℕ) (x : Term) → arg s next (seen h n) (seen h t) x ≡ Ok No
Picks h n t (Err f) =
    (s : Subst) (next : ℕ) (x : Term) → IsFault h (arg s next (seen h n) (seen h t) x) f

-- ---- functor

-- the number of arguments that a new compound of a name is to have
abbrev pub arity_wanted : Term → Term → Checked ℕ
arity_wanted n a = do
  bound n
  bound a
  z ← integer a
  atomic n
  k ← natural_in a
  fitting_arity k

-- the cells of so many variables from a number on
abbrev pub variable_cells : ℕ → ℕ → List Cell
variable_cells v zero = []
variable_cells v (suc n) = cell.Var v ∷ variable_cells (v + 1) n

-- so many further cells with new variables
abbrev pub with_variables : Heap → ℕ → Heap
with_variables h n =
    record h { cells = h.cells ++ variable_cells h.next n; next = h.next + n }

-- a further place shows the compound of a name and so many new variables
pub record MakesCompound (old new : Heap) (name count at : ℕ) : Type 0 where
  pub more : List Cell
  pub cells : new.cells ≡ old.cells ++ more
  pub subst : new.subst ≡ old.subst
  pub next : new.next ≡ old.next + count
  pub trail : new.trail ≡ old.trail
  pub names : new.names ≡ old.names
  pub within : at < length new.cells
  pub compound : shown new at ≡ Comp (name_at old.names name) (variables_from old.next count)
