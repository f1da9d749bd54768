-- Goals of a first argument, and what trying their candidates gives.
use Rattle.std.specs.Prelude.{◌≡◌, ℕ, ◌<◌, List, length, map, Some}
use Rattle.tp_terms.specs.declared.cells.AtomId.{AtomId}
use Rattle.tp_terms.specs.Term.{Name, Term, Terms, Int, Atom, Comp, NoMore, More, count_of, args_of}
use Rattle.tp_terms.specs.Shown.{name_at}
use Rattle.tp_meaning.specs.Clauses.{Base, predicate, worlds_of}
use Rattle.tp_meaning.specs.Subst.{apply}
use Rattle.tp_meaning.specs.Turn.{Turn}
use Rattle.tp_clauses.specs.Contents.{Contents, base_of, clauses_at}
use Rattle.tp_clauses.specs.declared.base.ClauseId.{ClauseId}
use Rattle.tp_clauses.specs.declared.first.FirstArg.{FirstArg}
use Rattle.tp_clauses.specs.declared.first.FirstArg.TheVariants as first

-- a term has this principal functor; of any, each term
abbrev pub IsOf : List Name → FirstArg → Term → Type 0
IsOf names first.Any t = Unit {0}
IsOf names (first.Int value) t = t ≡ Int value
IsOf names (first.Atom name) t = (name.at < length names) × (t ≡ Atom (name_at names name.at))
IsOf names (first.Comp name count) t =
    (name.at < length names) ×
    ((ts : Terms) × (t ≡ Comp (name_at names name.at) ts) × (count_of ts ≡ count))

-- the first of some arguments has it; where there is none, it is any
abbrev pub BeginWith : List Name → FirstArg → Terms → Type 0
BeginWith names f NoMore = f ≡ first.Any
BeginWith names f (More t ts) = IsOf names f t

-- a goal's first argument has it
abbrev pub HasFirst : List Name → FirstArg → Term → Type 0
HasFirst names f goal = BeginWith names f (args_of goal)

-- Trying the clauses of some places gives what trying all clauses of the predicate gives: the same
-- worlds in the same order, for each goal whose first argument has the principal functor under the
-- bindings.
pub record GivesWorlds (names : List Name) (c : Contents) (name : AtomId) (arity : ℕ)
    (f : FirstArg) (ids : List ClauseId) : Type 0 where
  pub clauses : Base
  pub stand : clauses_at names c ids ≡ map Some clauses
  pub worlds : (t : Turn) (goal : Term) → HasFirst names f (apply t.world.subst goal) →
      worlds_of t goal clauses
      ≡ worlds_of t goal (predicate (base_of names c) (name_at names name.at) arity)
