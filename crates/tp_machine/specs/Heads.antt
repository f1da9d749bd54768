-- A goal and the heads of clauses.
use Rattle.std.specs.Prelude.{◌≡◌, ℕ, ◌+◌, ◌<◌, ◌≤◌, Bool, true, is_some, List, length, Option}
use Rattle.std.specs.Prelude.{Some, IfSome}
use Rattle.std.specs.Option.{option_map}
use Rattle.tp_terms.specs.declared.cells.Cell.{Cell}
use Rattle.tp_terms.specs.declared.cells.Ref.{Ref}
use Rattle.tp_terms.specs.Term.{Name, Term}
use Rattle.tp_terms.specs.Shown.{shows, AreNamed}
use Rattle.tp_meaning.specs.Subst.{Subst, mgu}
use Rattle.tp_meaning.specs.Clauses.{Clause, renamed, head_of}
use Rattle.tp_store.specs.Contents.{Contents, subst_of}
use Rattle.tp_clauses.specs.declared.base.ClauseView.{ClauseView}
use Rattle.tp_machine.specs.Program.{head_term, body_term}

-- what the unifier of a goal and the head of a clause is, the clause's variables being numbered on
abbrev pub unifier : List Name → Contents → ℕ → Term → Option Subst
unifier names c goal head = mgu (subst_of names c) (shows names c.cells goal) (renamed c.vars head)

-- a clause whose head has a unifier with the goal
abbrev pub hits : List Name → Contents → ℕ → Clause → Bool
hits names c goal clause = is_some (unifier names c goal (head_of clause))

-- A clause was entered: its head was unified with a goal, and its body, where it has one, has a
-- place.
pub record EntersClause (names : List Name) (goal : ℕ) (cells : List Cell) (v : ClauseView)
    (old : Contents) (place : Option Ref) (new : Contents) : Type 0 where
  pub unified : is_some (unifier names old goal (head_term names cells v)) ≡ true →
      unifier names old goal (head_term names cells v) ≡ Some (subst_of names new)
  pub vars : new.vars ≡ old.vars + v.vars
  pub longer : length old.cells ≤ length new.cells
  pub kept : (at : ℕ) → at < length old.cells → shows names new.cells at ≡ shows names old.cells at
  pub body : option_map (λ r. shows names new.cells r.at) place
      ≡ option_map (renamed old.vars) (body_term names cells v)
  pub within : IfSome place (λ r. r.at < length new.cells)
  pub atoms : AreNamed (length names) new.cells
