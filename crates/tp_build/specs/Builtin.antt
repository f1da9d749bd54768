-- Rows of built-in goals, by the kinds and relations that they go by, and which built-in a goal is.
use Rattle.std.specs.Prelude.{ℕ, Bool, not, ◌||◌, Option, Some, None, Ok}
use Rattle.std.specs.declared.cmp.Ordering.{Ordering}
use Rattle.std.specs.Ordering.{is_eq, is_ne, is_lt, is_le, is_gt, is_ge}
use Rattle.tp_terms.specs.Term.{Name, Term}
use Rattle.tp_meaning.specs.Order.{term_cmp}
use Rattle.tp_meaning.specs.Subst.{Subst}
use Rattle.tp_meaning.specs.Checks.{Checked}
use Rattle.tp_meaning.specs.Goals.{goal_kind}
use Rattle.tp_meaning.specs.Answers.{Answer, succeeds}
use Rattle.tp_meaning.specs.Builtin.{is_variable, is_integer, is_atom, is_compound}
use Rattle.tp_meaning.specs.Builtin as rows
use Rattle.tp_meaning.specs.declared.goals.GoalKind.{GoalKind}
use Rattle.tp_meaning.specs.declared.goals.GoalKind.TheVariants.{BuiltIn}
use Rattle.tp_meaning.specs.declared.goals.BuiltId.{BuiltId}
use Rattle.tp_arith.specs.declared.Relation.{Relation}
use Rattle.tp_arith.specs.Values.{holds}
use Rattle.tp_build.specs.declared.kinds.Kind.{Kind}
use Rattle.tp_build.specs.declared.kinds.Kind.TheVariants as kind
use Rattle.tp_build.specs.declared.order.OrderRelation.{OrderRelation}
use Rattle.tp_build.specs.declared.order.OrderRelation.TheVariants as relation

-- a built-in, where a goal is one
abbrev pub built_of : Option GoalKind → Option BuiltId
built_of (Some (BuiltIn id)) = Some id
built_of _ = None

-- the built-in that a name and a number of arguments are
abbrev pub built_in : Name → ℕ → Option BuiltId
built_in name count = built_of (goal_kind name count)

-- whether a term is of a kind
abbrev pub is_of : Kind → Term → Bool
is_of kind.Variable t = is_variable t
is_of kind.Nonvariable t = not (is_variable t)
is_of kind.Atom t = is_atom t
is_of kind.Integer t = is_integer t
is_of kind.Atomic t = is_atom t || is_integer t
is_of kind.Compound t = is_compound t
is_of kind.Callable t = is_atom t || is_compound t

-- whether terms that stand like this in the standard order are in a relation
abbrev pub in_order : OrderRelation → Ordering → Bool
in_order relation.Same o = is_eq o
in_order relation.NotSame o = is_ne o
in_order relation.Before o = is_lt o
in_order relation.BeforeOrSame o = is_le o
in_order relation.After o = is_gt o
in_order relation.AfterOrSame o = is_ge o

-- two terms compared by the standard order
abbrev pub ordered : OrderRelation → Subst → ℕ → Term → Term → Checked Answer
ordered r s next x y = Ok (succeeds (in_order r (term_cmp x y)) s next)

-- the values of two terms compared
abbrev pub compares : Relation → Subst → ℕ → Term → Term → Checked Answer
compares r = rows.compares (holds r)
