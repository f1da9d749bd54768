-- The control goals.
use Rattle.std.specs.Prelude.{ℕ, zero, suc, ◌+◌, ◌&&◌, nat_eq, List, [], ◌∷◌, ◌++◌, Option, Some}
use Rattle.std.specs.Prelude.{None, Ok, Err, ℤ, pos, ◌+ℤ◌, int_lt, int_le, codes, if◌then◌else◌}
use Rattle.std.specs.Ordering.{int_eq}
use Rattle.tp_terms.specs.Term.{Name, Term, Terms, Var, Int, Atom, Comp, NoMore, More, names_eq}
use Rattle.tp_terms.specs.Term.{count_of, args_of, with_args, term_of, atom}
use Rattle.tp_meaning.specs.declared.goals.ControlGoal.{ControlGoal}
use Rattle.tp_meaning.specs.declared.goals.ControlGoal.TheVariants.{True, Fail, Conjunction, Cut}
use Rattle.tp_meaning.specs.declared.goals.ControlGoal.TheVariants.{Disjunction, IfThen}
use Rattle.tp_meaning.specs.declared.goals.ControlGoal.TheVariants.{NotProvable, Call, Once, Repeat}
use Rattle.tp_meaning.specs.declared.goals.ControlGoal.TheVariants.{Between}
use Rattle.tp_meaning.specs.Checks.{Checked, ◌>>=◌, ◌>>◌, bound, callable, arity_fits}
use Rattle.tp_meaning.specs.Checks.{integer_given, type_error}
use Rattle.tp_meaning.specs.Body.{enter}
use Rattle.tp_meaning.specs.World.{World, Item, Goal}
use Rattle.tp_meaning.specs.World as item
use Rattle.tp_meaning.specs.Search.{Failed, Dead}
use Rattle.tp_meaning.specs.Search as search
use Rattle.tp_meaning.specs.Turn.{Turn, Gives, going, one, two, some, unified}

-- the argument at a place, counted from 0
abbrev pub arg : ℕ → Terms → Term
arg n NoMore = Atom []
arg zero (More t ts) = t
arg (suc n) (More t ts) = arg n ts

-- the arguments behind the first
abbrev pub behind_first : Terms → Terms
behind_first NoMore = NoMore
behind_first (More t ts) = ts

-- the goals C and T of a term `(C->T)`, where it is one
abbrev pub parts : Term → Option (Term × Term)
parts (Comp f (More c (More t NoMore))) = if names_eq f (codes "->") then Some (c, t) else None
parts _ = None

-- The items of `(C->T)`: C, whose cuts reach no further than C, then a commit to its first
-- solution, then T, then the rest.
abbrev pub if_then : Turn → ℕ → Term → Term → List Item
if_then t b c g =
    Goal c (t.world.stamp + 1) ∷ item.Commit t.world.stamp ∷ Goal g b ∷ t.rest

-- the items of the first side of a disjunction, which may be `(C->T)`
abbrev pub first_of : Turn → ℕ → Term → List Item
first_of t b g = elim (parts g) [ None ↦ Goal g b ∷ t.rest | Some p ↦ if_then t b p.0 p.1 ]

-- What `(A;B)` gives: a world for each side. Where A is `(C->T)`, its commit takes B away.
abbrev pub disjunction : Turn → ℕ → Term → Term → Gives
disjunction t b x y = two (going t (first_of t b x)) (going t (Goal y b ∷ t.rest))

-- What `\+ G` gives: a world that fails once G has a solution, and one that goes on where G has
-- none.
abbrev pub not_provable : Turn → ℕ → Term → Checked Gives
not_provable t b g = do
  g' ← enter g
  Ok (two (going t (if_then t b g' (atom "fail"))) (going t t.rest))

-- what `call(G)` gives: a world with G, whose cuts reach no further than G
abbrev pub called : Turn → Term → Checked Gives
called t g = do
  g' ← enter g
  Ok (one (going t (Goal g' (t.world.stamp + 1) ∷ t.rest)))

-- What `call(G,A,...)` gives: what `call` of G gives with the further arguments at its end.
abbrev pub called_with : Turn → Term → Terms → Checked Gives
called_with t g us = do
  bound g
  callable g
  arity_fits (count_of (args_of g) + count_of us)
  called t (with_args g us)

-- what `once(G)` gives: a world with G, and a commit to its first solution
abbrev pub called_once : Turn → Term → Checked Gives
called_once t g = do
  g' ← enter g
  Ok (one (going t (Goal g' (t.world.stamp + 1) ∷ item.Commit t.world.stamp ∷ t.rest)))

-- what a goal gives that succeeds again and again: a world that goes on, and one with the goal
abbrev pub repeated : Turn → ℕ → Term → Gives
repeated t b g = two (going t t.rest) (going t (Goal g b ∷ t.rest))

-- the world with the numbers that come after the first, by the same goal
abbrev pub from_next : Turn → ℕ → Name → ℤ → ℤ → Term → World
from_next t b f l h x =
    going t (Goal (Comp f (More (Int (l +ℤ pos 1)) (More (Int h) (More x NoMore)))) b ∷ t.rest)

-- the worlds in which a term is a number from one to another, the least first
abbrev pub numbered : Turn → ℕ → Name → ℤ → ℤ → Term → List World
numbered t b f l h x =
    if int_lt h l then []
    else if int_eq l h then unified t x (Int l)
    else unified t x (Int l) ++ from_next t b f l h x ∷ []

-- what `between` gives with both its bounds: a number is tested, and a variable counts
abbrev pub counted : Turn → ℕ → Name → ℤ → ℤ → Term → Checked Gives
counted t b f l h (Int x) =
    Ok (if int_le l x && int_le x h then one (going t t.rest) else Dead Failed)
counted t b f l h (Var v) = Ok (some (numbered t b f l h (Var v)))
counted t b f l h x = Err (type_error "integer" x)

-- what `between(L,H,X)` gives
abbrev pub between_of : Turn → ℕ → Name → Terms → Checked Gives
between_of t b f ts = do
  l ← integer_given (arg 0 ts)
  h ← integer_given (arg 1 ts)
  counted t b f l h (arg 2 ts)

-- What a control goal with its barrier stamp, its name and its arguments gives.
abbrev pub control : Turn → ℕ → ControlGoal → Name → Terms → Checked Gives
control t b True f ts = Ok (one (going t t.rest))
control t b Fail f ts = Ok (Dead Failed)
control t b Conjunction f ts = Ok (one (going t (Goal (arg 0 ts) b ∷ Goal (arg 1 ts) b ∷ t.rest)))
control t b Cut f ts = Ok (search.Commit b (going t t.rest))
control t b Disjunction f ts = Ok (disjunction t b (arg 0 ts) (arg 1 ts))
control t b IfThen f ts = Ok (one (going t (if_then t b (arg 0 ts) (arg 1 ts))))
control t b NotProvable f ts = not_provable t b (arg 0 ts)
control t b Call f ts =
    if nat_eq (count_of ts) 1 then called t (arg 0 ts)
    else called_with t (arg 0 ts) (behind_first ts)
control t b Once f ts = called_once t (arg 0 ts)
control t b Repeat f ts = Ok (repeated t b (term_of f ts))
control t b Between f ts = between_of t b f ts
