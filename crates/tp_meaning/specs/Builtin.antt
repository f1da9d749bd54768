-- The table of built-in goals: what each answers, at arguments that are seen under the
-- substitution.
use Rattle.std.specs.Prelude.{ℕ, ◌+◌, Bool, true, false, not, ◌||◌, is_none, Ok, ℤ, int_lt, int_le}
use Rattle.std.specs.Ordering.{is_eq, is_ne, is_lt, is_le, is_gt, is_ge, int_eq}
use Rattle.tp_terms.specs.Term.{Term, Terms, Var, Int, Atom, Comp, NoMore, More}
use Rattle.tp_meaning.specs.Order.{term_cmp}
use Rattle.tp_meaning.specs.Subst.{Subst, mgu}
use Rattle.tp_meaning.specs.Copy.{copy_of}
use Rattle.tp_meaning.specs.Arith.{compared, value}
use Rattle.tp_meaning.specs.Checks.{Checked, ◌>>=◌}
use Rattle.tp_meaning.specs.Answers.{Answer, No, succeeds, unifies, functor, arg, univ, atom_length}
use Rattle.tp_meaning.specs.Answers.{atom_codes}
use Rattle.tp_meaning.specs.declared.goals.BuiltId.{BuiltId}
use Rattle.tp_meaning.specs.declared.goals.BuiltId.TheVariants as built

-- ---- kinds of terms

abbrev pub is_variable : Term → Bool
is_variable (Var v) = true
is_variable t = false

abbrev pub is_integer : Term → Bool
is_integer (Int z) = true
is_integer t = false

abbrev pub is_atom : Term → Bool
is_atom (Atom a) = true
is_atom t = false

abbrev pub is_compound : Term → Bool
is_compound (Comp f ts) = true
is_compound t = false

-- ---- rows

-- two terms that have no unifier
abbrev pub differs : Subst → ℕ → Term → Term → Checked Answer
differs s next x y = Ok (succeeds (is_none (mgu s x y)) s next)

-- a term unified with a copy of another, which has the next variables
abbrev pub copies : Subst → ℕ → Term → Term → Checked Answer
copies s next t c = Ok (unifies s (next + (copy_of next t).1) c (copy_of next t).0)

-- a term unified with the value of another
abbrev pub is_value : Subst → ℕ → Term → Term → Checked Answer
is_value s next x e = do
  z ← value s e
  Ok (unifies s next x (Int z))

-- the values of two terms compared by a test
abbrev pub compares : (ℤ → ℤ → Bool) → Subst → ℕ → Term → Term → Checked Answer
compares test s next x y = do
  b ← compared test s x y
  Ok (succeeds b s next)

-- ---- the table

abbrev pub of_one : BuiltId → Subst → ℕ → Term → Checked Answer
of_one built.Var s next x = Ok (succeeds (is_variable x) s next)
of_one built.Nonvar s next x = Ok (succeeds (not (is_variable x)) s next)
of_one built.Atom s next x = Ok (succeeds (is_atom x) s next)
of_one built.Integer s next x = Ok (succeeds (is_integer x) s next)
of_one built.Atomic s next x = Ok (succeeds (is_atom x || is_integer x) s next)
of_one built.Compound s next x = Ok (succeeds (is_compound x) s next)
of_one built.Callable s next x = Ok (succeeds (is_atom x || is_compound x) s next)
of_one _ s next x = Ok No

abbrev pub of_two : BuiltId → Subst → ℕ → Term → Term → Checked Answer
of_two built.Unify s next x y = Ok (unifies s next x y)
of_two built.NotUnifiable s next x y = differs s next x y
of_two built.Same s next x y = Ok (succeeds (is_eq (term_cmp x y)) s next)
of_two built.NotSame s next x y = Ok (succeeds (is_ne (term_cmp x y)) s next)
of_two built.Before s next x y = Ok (succeeds (is_lt (term_cmp x y)) s next)
of_two built.BeforeOrSame s next x y = Ok (succeeds (is_le (term_cmp x y)) s next)
of_two built.After s next x y = Ok (succeeds (is_gt (term_cmp x y)) s next)
of_two built.AfterOrSame s next x y = Ok (succeeds (is_ge (term_cmp x y)) s next)
of_two built.Is s next x e = is_value s next x e
of_two built.NumberEqual s next x y = compares int_eq s next x y
of_two built.NumberUnequal s next x y = compares (λ a b. not (int_eq a b)) s next x y
of_two built.Less s next x y = compares int_lt s next x y
of_two built.LessEqual s next x y = compares int_le s next x y
of_two built.Greater s next x y = compares (λ a b. int_lt b a) s next x y
of_two built.GreaterEqual s next x y = compares (λ a b. int_le b a) s next x y
of_two built.Univ s next t l = univ s next t l
of_two built.CopyTerm s next t c = copies s next t c
of_two built.AtomLength s next a n = atom_length s next a n
of_two built.AtomCodes s next a l = atom_codes s next a l
of_two _ s next x y = Ok No

abbrev pub of_three : BuiltId → Subst → ℕ → Term → Term → Term → Checked Answer
of_three built.Functor s next t n a = functor s next t n a
of_three built.Arg s next n t x = arg s next n t x
of_three _ s next x y z = Ok No

-- What a built-in answers of its arguments. It has the number of arguments that the table of goals
-- says.
abbrev pub of_args : BuiltId → Subst → ℕ → Terms → Checked Answer
of_args id s next (More x NoMore) = of_one id s next x
of_args id s next (More x (More y NoMore)) = of_two id s next x y
of_args id s next (More x (More y (More z NoMore))) = of_three id s next x y z
of_args id s next _ = Ok No
