-- Clauses, and the goals that they define.
use Rattle.std.specs.Prelude.{ℕ, ◌+◌, nat_eq, ◌&&◌, List, [], ◌∷◌, ◌++◌, Option, Some, None, Ok}
use Rattle.std.specs.Prelude.{Err, if◌then◌else◌}
use Rattle.std.specs.List.{filter_map}
use Rattle.tp_terms.specs.Term.{Name, Term, Terms, Var, names_eq, count_of, term_of, replaced}
use Rattle.tp_meaning.specs.Subst.{mgu}
use Rattle.tp_meaning.specs.Checks.{Checked, unknown}
use Rattle.tp_meaning.specs.World.{World, Item, Goal, world_under}
use Rattle.tp_meaning.specs.Turn.{Turn, Gives, going, some}

-- a clause with its variables numbered from 0, so many, and its body as a goal, where it has one
pub record Clause : Type 0 where
  pub name : Name
  pub args : Terms
  pub body : Option Term
  pub vars : ℕ

-- the clauses of a model in order
abbrev pub Base : Type 0
Base = List Clause

-- the clauses of a name and a number of arguments
abbrev pub predicate : Base → Name → ℕ → Base
predicate [] f n = []
predicate (c ∷ cs) f n =
    if names_eq f c.name && nat_eq n (count_of c.args) then c ∷ predicate cs f n
    else predicate cs f n

-- variables numbered on from the next one
abbrev pub renamed : ℕ → Term → Term
renamed next = replaced (λ v. Var (v + next))

abbrev pub head_of : Clause → Term
head_of c = term_of c.name c.args

-- the item of a clause's body
abbrev pub body_items : Clause → World → List Item
body_items c w = elim (c.body) [ None ↦ [] | Some b ↦ Goal (renamed w.next b) w.stamp ∷ [] ]

-- the world of a clause
abbrev pub by_clause : Turn → Clause → World
by_clause t c = record (going t (body_items c t.world ++ t.rest)) { next = t.world.next + c.vars }

-- the world of a clause whose head has a unifier with the goal
abbrev pub try_clause : Turn → Term → Clause → Option World
try_clause t g c =
    elim (mgu t.world.subst g (renamed t.world.next (head_of c))) [
      | None ↦ None
      | Some u ↦ Some (world_under u (by_clause t c))
    ]

-- the worlds of the clauses whose head has a unifier with the goal
abbrev pub worlds_of : Turn → Term → Base → List World
worlds_of t g = filter_map (try_clause t g)

-- a goal by its predicate
abbrev pub user_goal : Base → Turn → Name → Terms → Checked Gives
user_goal base t f ts = elim (predicate base f (count_of ts)) [
  | [] ↦ Err (unknown f (count_of ts))
  | c ∷ cs ↦ Ok (some (worlds_of t (term_of f ts) (c ∷ cs)))
]
