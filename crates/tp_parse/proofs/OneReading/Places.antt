-- What is left of tokens is their end.
use Rattle.std.proofs.Common.{◌≡◌, ℕ, List, [], ◌∷◌, ◌++◌, refl, sym, ap, ◌∙◌, append_assoc}
use Rattle.tp_lex.specs.Tokens.{Lexed}
use Rattle.tp_parse.specs.Tree.{Tree, Trees}
use Rattle.tp_parse.specs.Table.{Table}
use Rattle.tp_parse.specs.Grammar.{Reads, whole, Begins, integer, variable, list_of_codes, parentheses, empty_brackets, empty_braces, list, braces, compound, negative, operator_as_atom, operator, atom, Elements, last_element, more_elements, element_and_tail, Arguments, last_argument, more_arguments, Goes, no_operator, above_bound, above_left_bound, infix_part}
use Rattle.tp_parse.specs.Stopping.{Stops, too_deep, ended_too_deep, in_primary, in_infix_parts, StopsFirst, ended, no_primary, too_large, in_parentheses, no_close, in_list, in_braces, no_close_curly, in_compound, operator_above_bound, in_operand, StopsElements, in_element, behind_element, in_more_elements, in_tail, behind_tail, StopsArguments, in_argument, behind_argument, too_many, in_more_arguments, StopsBehind, in_right_operand, in_later_part, StopsClause, in_clause, clause_without_end, behind_clause, StopsGoal, in_goal, goal_without_end, behind_goal}
use Rattle.tp_parse.specs.declared.fault.ReadCause.{ReadCause}

-- the tokens end with these
abbrev Ends : List Lexed → List Lexed → Type 0
Ends ts us = (before : List Lexed) × (ts ≡ before ++ us)

all : (ts : List Lexed) → Ends ts ts
all ts = ([], refl)

later : (t : Lexed) (ts us : List Lexed) → Ends ts us → Ends (t ∷ ts) us
later t ts us e = (t ∷ e.0, ap (λ l. t ∷ l) e.1)

further : (ts us vs : List Lexed) → Ends ts us → Ends us vs → Ends ts vs
further ts us vs e f = (e.0 ++ f.0, e.1 ∙ ap (λ l. e.0 ++ l) f.1 ∙ sym (append_assoc e.0 f.0 vs))

behind_one : (c : Lexed) (ts us : List Lexed) → Ends ts (c ∷ us) → Ends ts us
behind_one c ts us e = further ts (c ∷ us) us e (c ∷ [], refl)

mutual
  pub ends-Reads : {ops : Table} {m p : ℕ} {ts : List Lexed} {x : Tree} {q : ℕ} {us : List Lexed} → Reads ops m p ts x q us → Ends ts us
  ends-Reads (whole {ts = ts} {us = us} {vs = vs} b g) = further ts us vs (ends-Begins b) (ends-Goes g)

  ends-Begins : {ops : Table} {m p : ℕ} {ts : List Lexed} {x : Tree} {q : ℕ} {us : List Lexed} → Begins ops m p ts x q us → Ends ts us
  ends-Begins (integer {t = t} {ts = ts} a b) = later t ts ts (all ts)
  ends-Begins (variable {t = t} {ts = ts} a) = later t ts ts (all ts)
  ends-Begins (list_of_codes {t = t} {ts = ts} a) = later t ts ts (all ts)
  ends-Begins (parentheses {t = t} {c = c} {ts = ts} {us = us} a r b) = later t ts us (behind_one c ts us (ends-Reads r))
  ends-Begins (empty_brackets {t = t} {c = c} {ts = ts} a b) = later t (c ∷ ts) ts (later c ts ts (all ts))
  ends-Begins (empty_braces {t = t} {c = c} {ts = ts} a b) = later t (c ∷ ts) ts (later c ts ts (all ts))
  ends-Begins (list {t = t} {ts = ts} {us = us} a l) = later t ts us (ends-Elements l)
  ends-Begins (braces {t = t} {c = c} {ts = ts} {us = us} a r b) = later t ts us (behind_one c ts us (ends-Reads r))
  ends-Begins (compound {t = t} {o = o} {ts = ts} {us = us} a b c l) = later t (o ∷ ts) us (later o ts us (ends-Arguments l))
  ends-Begins (negative {t = t} {i = i} {ts = ts} a b c) = later t (i ∷ ts) ts (later i ts ts (all ts))
  ends-Begins (operator_as_atom {t = t} {ts = ts} a b c) = later t ts ts (all ts)
  ends-Begins (operator {t = t} {ts = ts} {us = us} a b c d r) = later t ts us (ends-Reads r)
  ends-Begins (atom {t = t} {ts = ts} a b) = later t ts ts (all ts)

  ends-Elements : {ops : Table} {m : ℕ} {ts : List Lexed} {x : Tree} {us : List Lexed} → Elements ops m ts x us → Ends ts us
  ends-Elements (last_element {c = c} {ts = ts} {us = us} r e) = behind_one c ts us (ends-Reads r)
  ends-Elements (more_elements {c = c} {ts = ts} {us = us} {vs = vs} r e l) = further ts us vs (behind_one c ts us (ends-Reads r)) (ends-Elements l)
  ends-Elements (element_and_tail {b = b} {c = c} {ts = ts} {us = us} {vs = vs} r e s d) = further ts us vs (behind_one b ts us (ends-Reads r)) (behind_one c us vs (ends-Reads s))

  ends-Arguments : {ops : Table} {m n : ℕ} {ts : List Lexed} {xs : Trees} {us : List Lexed} → Arguments ops m n ts xs us → Ends ts us
  ends-Arguments (last_argument {c = c} {ts = ts} {us = us} r e) = behind_one c ts us (ends-Reads r)
  ends-Arguments (more_arguments {c = c} {ts = ts} {us = us} {vs = vs} r e l) = further ts us vs (behind_one c ts us (ends-Reads r)) (ends-Arguments l)

  ends-Goes : {ops : Table} {m p : ℕ} {x : Tree} {q : ℕ} {ts : List Lexed} {y : Tree} {r : ℕ} {us : List Lexed} → Goes ops m p x q ts y r us → Ends ts us
  ends-Goes (no_operator {ts = ts} e) = all ts
  ends-Goes (above_bound {ts = ts} e h) = all ts
  ends-Goes (above_left_bound {ts = ts} e h) = all ts
  ends-Goes (infix_part {i = i} {ts = ts} {us = us} {vs = vs} e h k r g) = later i ts vs (further ts us vs (ends-Reads r) (ends-Goes g))

mutual
  pub ends-Stops : {ops : Table} {m p : ℕ} {ts : List Lexed} {c : ReadCause} {us : List Lexed} → Stops ops m p ts c us → Ends ts us
  ends-Stops (too_deep {t = t} {ts = ts}) = all (t ∷ ts)
  ends-Stops ended_too_deep = all []
  ends-Stops (in_primary s) = ends-First s
  ends-Stops (in_infix_parts {ts = ts} {us = us} {vs = vs} b s) = further ts us vs (ends-Begins b) (ends-Behind s)

  ends-First : {ops : Table} {m p : ℕ} {ts : List Lexed} {c : ReadCause} {us : List Lexed} → StopsFirst ops m p ts c us → Ends ts us
  ends-First ended = all []
  ends-First (no_primary {t = t} {ts = ts} b) = all (t ∷ ts)
  ends-First (too_large {t = t} {ts = ts} e h) = all (t ∷ ts)
  ends-First (in_parentheses {t = t} {ts = ts} {us = us} e s) = later t ts us (ends-Stops s)
  ends-First (no_close {t = t} {ts = ts} {us = us} e r n) = later t ts us (ends-Reads r)
  ends-First (in_list {t = t} {ts = ts} {us = us} e n s) = later t ts us (ends-StopsElements s)
  ends-First (in_braces {t = t} {ts = ts} {us = us} e n s) = later t ts us (ends-Stops s)
  ends-First (no_close_curly {t = t} {ts = ts} {us = us} e r n) = later t ts us (ends-Reads r)
  ends-First (in_compound {t = t} {o = o} {ts = ts} {us = us} n e d s) = later t (o ∷ ts) us (later o ts us (ends-StopsArguments s))
  ends-First (operator_above_bound {t = t} {ts = ts} n e b h) = later t ts ts (all ts)
  ends-First (in_operand {t = t} {ts = ts} {us = us} n e b h s) = later t ts us (ends-Stops s)

  ends-StopsElements : {ops : Table} {m : ℕ} {ts : List Lexed} {c : ReadCause} {us : List Lexed} → StopsElements ops m ts c us → Ends ts us
  ends-StopsElements (in_element s) = ends-Stops s
  ends-StopsElements (behind_element r a b d) = ends-Reads r
  ends-StopsElements (in_more_elements {k = k} {ts = ts} {us = us} {vs = vs} r e s) = further ts us vs (behind_one k ts us (ends-Reads r)) (ends-StopsElements s)
  ends-StopsElements (in_tail {k = k} {ts = ts} {us = us} {vs = vs} r e s) = further ts us vs (behind_one k ts us (ends-Reads r)) (ends-Stops s)
  ends-StopsElements (behind_tail {k = k} {ts = ts} {us = us} {vs = vs} r e s d) = further ts us vs (behind_one k ts us (ends-Reads r)) (ends-Reads s)

  ends-StopsArguments : {ops : Table} {m n : ℕ} {ts : List Lexed} {c : ReadCause} {us : List Lexed} → StopsArguments ops m n ts c us → Ends ts us
  ends-StopsArguments (in_argument s) = ends-Stops s
  ends-StopsArguments (behind_argument r a b) = ends-Reads r
  ends-StopsArguments (too_many r e) = ends-Reads r
  ends-StopsArguments (in_more_arguments {k = k} {ts = ts} {us = us} {vs = vs} r e s) = further ts us vs (behind_one k ts us (ends-Reads r)) (ends-StopsArguments s)

  ends-Behind : {ops : Table} {m p : ℕ} {x : Tree} {q : ℕ} {ts : List Lexed} {c : ReadCause} {us : List Lexed} → StopsBehind ops m p x q ts c us → Ends ts us
  ends-Behind (in_right_operand {i = i} {ts = ts} {us = us} e a b s) = later i ts us (ends-Stops s)
  ends-Behind (in_later_part {i = i} {ts = ts} {us = us} {vs = vs} e a b r s) = later i ts vs (further ts us vs (ends-Reads r) (ends-Behind s))

pub ends-StopsClause : {ops : Table} {ts : List Lexed} {c : ReadCause} {us : List Lexed} → StopsClause ops ts c us → Ends ts us
ends-StopsClause (in_clause s) = ends-Stops s
ends-StopsClause (clause_without_end r n) = ends-Reads r
ends-StopsClause (behind_clause {e = e} {u = u} {ts = ts} {us = us} r k) = behind_one e ts (u ∷ us) (ends-Reads r)

pub ends-StopsGoal : {ops : Table} {ts : List Lexed} {c : ReadCause} {us : List Lexed} → StopsGoal ops ts c us → Ends ts us
ends-StopsGoal (in_goal s) = ends-Stops s
ends-StopsGoal (goal_without_end r n) = ends-Reads r
ends-StopsGoal (behind_goal {e = e} {u = u} {ts = ts} {us = us} r k) = behind_one e ts (u ∷ us) (ends-Reads r)
