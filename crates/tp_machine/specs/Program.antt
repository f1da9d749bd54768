-- The goal that an engine is made for, and the terms of the clauses that it runs.
use Rattle.std.specs.Prelude.{◌≡◌, ℕ, ◌<◌, true, List, length, All, [], Option}
use Rattle.std.specs.Option.{option_map}
use Rattle.tp_terms.specs.declared.cells.Cell.{Cell}
use Rattle.tp_terms.specs.Term.{Name, Term, occurs}
use Rattle.tp_terms.specs.Shown.{shows, AreNamed}
use Rattle.tp_parse.specs.declared.read.ReadTerm.{ReadTerm}
use Rattle.tp_clauses.specs.declared.base.ClauseView.{ClauseView}

-- the term of a goal
abbrev pub goal_term : List Name → ReadTerm → Term
goal_term names t = shows names t.cells.items t.root.at

-- A goal: its place stands, its atoms are of the table, and every variable of its term and every
-- number of its named variables is below the number of its variables.
pub record GoalFits (names : List Name) (t : ReadTerm) : Type 0 where
  pub root : t.root.at < length t.cells.items
  pub atoms : AreNamed (length names) t.cells.items
  pub variables : (v : ℕ) → occurs v (shows [] t.cells.items t.root.at) ≡ true → v < t.vars
  pub named : All (λ n. n.number < t.vars) t.named

-- the terms of a clause
abbrev pub head_term : List Name → List Cell → ClauseView → Term
head_term names cells v = shows names cells v.head.at

abbrev pub body_term : List Name → List Cell → ClauseView → Option Term
body_term names cells v = option_map (λ r. shows names cells r.at) v.body
