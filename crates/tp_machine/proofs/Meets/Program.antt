-- The variables of a goal and of the clauses of a base are below their numbers.
use Rattle.std.proofs.Common.{◌≡◌, ℕ, ◌<◌, ◌||◌, Bool, true, false, List, length, Option, Some, None, option_map, IfSome, refl, ap, sym, ◌∙◌}
use Rattle.std.specs.List.{AllByRecursion}
use Rattle.std.proofs.Common.{eq-eqb}
use Rattle.std.proofs.lemmas.List.Elements.{recursion_from_All}
use Rattle.tp_terms.specs.declared.cells.Cell.{Cell}
use Rattle.tp_terms.specs.declared.cells.Ref.{Ref}
use Rattle.tp_terms.specs.Term.{Name, Term, Terms, Var, Int, Atom, Comp, NoMore, More, occurs, occurs_in}
use Rattle.tp_terms.specs.Shown.{shows}
use Rattle.tp_terms.proofs.Places.Bound.{occurs-shows}
use Rattle.tp_meaning.specs.Valid.{Below, AllBelow, ClauseFits}
use Rattle.tp_meaning.proofs.ValidWorlds.Places.{all-map}
use Rattle.tp_parse.specs.declared.read.ReadTerm.{ReadTerm}
use Rattle.tp_clauses.specs.declared.base.ClauseView.{ClauseView}
use Rattle.tp_clauses.specs.Contents.{AreBelow, ViewFits, clause_of, head_args}
use Rattle.tp_machine.specs.declared.machine.Machine.{Machine}
use Rattle.tp_machine.specs.Program.{GoalFits, goal_term}
use Rattle.tp_machine.specs.Machine.{IsProgram, base_in}

or-left : (a b : Bool) → a ≡ true → (a || b) ≡ true
or-left a b e = ap (λ c. c || b) e

or-right : (a b : Bool) → b ≡ true → (a || b) ≡ true
or-right true b e = refl
or-right false b e = e

-- a term in which only such variables occur
mutual
  pub below-occurs : (n : ℕ) (t : Term) → ((v : ℕ) → occurs v t ≡ true → v < n) → Below n t
  below-occurs n (Var v) h = h v (eq-eqb v v refl)
  below-occurs n (Int z) h = tt
  below-occurs n (Atom a) h = tt
  below-occurs n (Comp f ts) h = all_below-occurs n ts h

  pub all_below-occurs : (n : ℕ) (ts : Terms) → ((v : ℕ) → occurs_in v ts ≡ true → v < n) → AllBelow n ts
  all_below-occurs n NoMore h = tt
  all_below-occurs n (More t ts) h = (
    below-occurs n t (λ v e. h v (or-left (occurs v t) (occurs_in v ts) e)),
    all_below-occurs n ts (λ v e. h v (or-right (occurs v t) (occurs_in v ts) e)),
  )

-- names are no matter
pub shown-below : (names : List Name) (cells : List Cell) (n : ℕ) (place : Ref) → AreBelow cells n place → Below n (shows names cells place.at)
shown-below names cells n place h = below-occurs n (shows names cells place.at) (λ v e. h v (sym (occurs-shows names cells place.at v) ∙ e))

-- the arguments of a head
args-below : (n : ℕ) (t : Term) → Below n t → AllBelow n (head_args t)
args-below n (Var v) h = tt
args-below n (Int z) h = tt
args-below n (Atom a) h = tt
args-below n (Comp f ts) h = h

pub view_clause-fits : (names : List Name) (cells : List Cell) (v : ClauseView) → ViewFits cells v → ClauseFits (clause_of names cells v)
view_clause-fits names cells v h = record {
  head = args-below v.vars (shows names cells v.head.at) (shown-below names cells v.vars v.head h.below);
  body = body v.body h.body;
}
  where
    body : (o : Option Ref) → IfSome o (λ place. (place.at < length cells) × AreBelow cells v.vars place) → IfSome (option_map (λ (r : Ref). shows names cells r.at) o) (Below v.vars)
    body None k = tt
    body (Some r) k = shown-below names cells v.vars r k.1

-- every clause of the program's base fits
pub base_fits : (m : Machine) → IsProgram m → AllByRecursion ClauseFits (base_in m)
base_fits m h =
    all-map ClauseFits (clause_of m.atoms m.base.now.cells) (ViewFits m.base.now.cells) (view_clause-fits m.atoms m.base.now.cells) m.base.now.clauses
    (recursion_from_All (ViewFits m.base.now.cells) m.base.now.clauses h.base.clauses)

-- so does the goal's term
pub goal_below : (names : List Name) (goal : ReadTerm) → GoalFits names goal → Below goal.vars (goal_term names goal)
goal_below names goal h = shown-below names goal.cells.items goal.vars goal.root h.variables
