-- Built-in goals by the number of their arguments.
use Rattle.std.specs.Prelude.{◌≡◌, ℕ, ◌+◌, ◌≤◌, ◌<◌, ◌^◌, length, Ok}
use Rattle.tp_terms.specs.declared.cells.Ref.{Ref}
use Rattle.tp_terms.specs.Term.{Term}
use Rattle.tp_meaning.specs.Subst.{Subst}
use Rattle.tp_meaning.specs.Checks.{Checked}
use Rattle.tp_meaning.specs.Heap.{Heap}
use Rattle.tp_meaning.specs.Answers.{Answer, succeeds, unifies, functor, arg, univ, atom_length}
use Rattle.tp_meaning.specs.Answers.{atom_codes}
use Rattle.tp_meaning.specs.Builtin.{differs, copies, is_value, of_one, of_two, of_three}
use Rattle.tp_meaning.specs.declared.goals.BuiltId.{BuiltId}
use Rattle.tp_meaning.specs.declared.goals.BuiltId.TheVariants as built
use Rattle.tp_build.specs.declared.families.Family.{Family}
use Rattle.tp_build.specs.declared.families.Family.TheVariants as family
use Rattle.tp_build.specs.declared.families.GoalOfTwo.{GoalOfTwo}
use Rattle.tp_build.specs.declared.families.GoalOfTwo.TheVariants as two
use Rattle.tp_build.specs.declared.families.GoalOfThree.{GoalOfThree}
use Rattle.tp_build.specs.declared.families.GoalOfThree.TheVariants as three
use Rattle.tp_build.specs.Builtin.{is_of, ordered, compares}

-- how many arguments a built-in has in the table of goals
abbrev pub argument_count : BuiltId → ℕ
argument_count built.Var = 1
argument_count built.Nonvar = 1
argument_count built.Atom = 1
argument_count built.Integer = 1
argument_count built.Atomic = 1
argument_count built.Compound = 1
argument_count built.Callable = 1
argument_count built.Functor = 3
argument_count built.Arg = 3
argument_count _ = 2

-- its arguments stand side by side from a place on, and the places are numbers of 64 bits
pub record HasArguments (h : Heap) (id : BuiltId) (first : Ref) : Type 0 where
  pub stand : first.at + argument_count id ≤ length h.cells
  pub places : first.at + argument_count id < 2 ^ 64

-- the rows of goals with two arguments and with three
abbrev pub row_of_two : GoalOfTwo → Subst → ℕ → Term → Term → Checked Answer
row_of_two two.Unify s next x y = Ok (unifies s next x y)
row_of_two two.NotUnifiable s next x y = differs s next x y
row_of_two (two.Order relation) s next x y = ordered relation s next x y
row_of_two two.Is s next x y = is_value s next x y
row_of_two (two.Values relation) s next x y = compares relation s next x y
row_of_two two.Univ s next x y = univ s next x y
row_of_two two.CopyTerm s next x y = copies s next x y
row_of_two two.AtomLength s next x y = atom_length s next x y
row_of_two two.AtomCodes s next x y = atom_codes s next x y

abbrev pub row_of_three : GoalOfThree → Subst → ℕ → Term → Term → Term → Checked Answer
row_of_three three.Functor s next x y z = functor s next x y z
row_of_three three.Arg s next x y z = arg s next x y z

-- a built-in has so many arguments, and this row
abbrev pub IsOf : BuiltId → Family → Type 0
IsOf id (family.One kind) =
    (argument_count id ≡ 1)
    × ((s : Subst) (next : ℕ) (x : Term) → of_one id s next x ≡ Ok (succeeds (is_of kind x) s next))
IsOf id (family.Two goal) =
    (argument_count id ≡ 2)
    × ((s : Subst) (next : ℕ) (x y : Term) → of_two id s next x y ≡ row_of_two goal s next x y)
IsOf id (family.Three goal) =
    (argument_count id ≡ 3)
    × ((s : Subst) (next : ℕ) (x y z : Term) →
    of_three id s next x y z ≡ row_of_three goal s next x y z)
