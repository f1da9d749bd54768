-- Worked rows of control goals, computed: steps, counts and end of a search, and each answer's steps, clock, values and
-- history.
use Rattle.std.proofs.Common.{◌≡◌, List, [], ◌∷◌, None, refl, pos}
use Rattle.tp_terms.specs.Term.{Term, Var, atom, comp, nat}
use Rattle.tp_meaning.specs.World.{Event, Start, End}
use Rattle.tp_meaning.specs.Search.{Stopped, Fails, Raised}
use Rattle.tp_meaning.specs.Clauses.{Base}
use Rattle.tp_meaning.proofs.WorkedRows.Seen.{fact, rule, at, counted, told, computed}

-- c(1). c(2).
abbrev two_facts : Base
two_facts = fact "c" (nat 1 ∷ []) 0 ∷ fact "c" (nat 2 ∷ []) 0 ∷ []

-- c(X)
abbrev any_c : Term
any_c = comp "c" (Var 0 ∷ [])

-- main starts and ends at once
abbrev start_and_end : List Event
start_and_end = at 0 0 Start ∷ at 0 0 End ∷ []

-- ---- cuts

-- p :- !, q. p. q :- fail.
abbrev cut_then_fails : Base
cut_then_fails = rule "p" [] (comp "," (atom "!" ∷ atom "q" ∷ [])) 0 ∷ fact "p" [] 0 ∷ rule "q" [] (atom "fail") 0 ∷ []

cut_takes_clauses : counted cut_then_fails (atom "p") 0 1000000 1 ≡ (6, (1, 0, 0), Fails None)
unfolding computed
cut_takes_clauses = refl

-- c(X), !
abbrev cut_goal : Term
cut_goal = comp "," (any_c ∷ atom "!" ∷ [])

cut_takes_solutions : counted two_facts cut_goal 1 1000000 3 ≡ (6, (0, 0, 0), Fails None)
unfolding computed
cut_takes_solutions = refl

cut_takes_solutions-told : told (0 ∷ []) two_facts cut_goal 1 1000000 3 ≡ (6, pos 0, nat 1 ∷ [], start_and_end) ∷ []
unfolding computed
cut_takes_solutions-told = refl

-- p :- once(q), !, fail. p. q.
abbrev cut_below_once : Base
cut_below_once = rule "p" [] (comp "," (comp "once" (atom "q" ∷ []) ∷ comp "," (atom "!" ∷ atom "fail" ∷ []) ∷ [])) 0 ∷ fact "p" [] 0 ∷ fact "q" [] 0 ∷ []

-- a failure below two commits carries the lesser stamp
lesser_stamp_kept : counted cut_below_once (atom "p") 0 1000000 1 ≡ (9, (1, 0, 0), Fails None)
unfolding computed
lesser_stamp_kept = refl

-- ---- conditions and disjunctions

-- (c(X) -> true ; true)
abbrev condition_holds : Term
condition_holds = comp ";" (comp "->" (any_c ∷ atom "true" ∷ []) ∷ atom "true" ∷ [])

first_solution : counted two_facts condition_holds 1 1000000 3 ≡ (7, (0, 0, 0), Fails None)
unfolding computed
first_solution = refl

first_solution-told : told (0 ∷ []) two_facts condition_holds 1 1000000 3 ≡ (7, pos 0, nat 1 ∷ [], start_and_end) ∷ []
unfolding computed
first_solution-told = refl

-- (fail -> fail ; true)
abbrev condition_fails : Term
condition_fails = comp ";" (comp "->" (atom "fail" ∷ atom "fail" ∷ []) ∷ atom "true" ∷ [])

else_taken : counted [] condition_fails 0 1000000 1 ≡ (6, (1, 0, 0), Stopped)
unfolding computed
else_taken = refl

-- (c(X) -> true)
without_else : counted two_facts (comp "->" (any_c ∷ atom "true" ∷ [])) 1 1000000 3 ≡ (7, (0, 0, 0), Fails None)
unfolding computed
without_else = refl

-- (fail -> true)
without_else_fails : counted [] (comp "->" (atom "fail" ∷ atom "true" ∷ [])) 0 1000000 1 ≡ (3, (1, 0, 0), Fails None)
unfolding computed
without_else_fails = refl

-- (c(X) ; c(X))
abbrev either_c : Term
either_c = comp ";" (any_c ∷ any_c ∷ [])

both_sides : counted two_facts either_c 1 1000000 5 ≡ (12, (0, 0, 0), Fails None)
unfolding computed
both_sides = refl

both_sides-told : told (0 ∷ []) two_facts either_c 1 1000000 5 ≡ (5, pos 0, nat 1 ∷ [], start_and_end) ∷ (7, pos 0, nat 2 ∷ [], start_and_end) ∷ (10, pos 0, nat 1 ∷ [], start_and_end) ∷ (12, pos 0, nat 2 ∷ [], start_and_end) ∷ []
unfolding computed
both_sides-told = refl

-- ---- goals that are entered

not_fail : counted [] (comp "\\+" (atom "fail" ∷ [])) 0 1000000 1 ≡ (5, (1, 0, 0), Stopped)
unfolding computed
not_fail = refl

not_fail-told : told [] [] (comp "\\+" (atom "fail" ∷ [])) 0 1000000 1 ≡ (5, pos 0, [], start_and_end) ∷ []
unfolding computed
not_fail-told = refl

not_true : counted [] (comp "\\+" (atom "true" ∷ [])) 0 1000000 1 ≡ (5, (1, 0, 0), Fails None)
unfolding computed
not_true = refl

once_c : counted two_facts (comp "once" (any_c ∷ [])) 1 1000000 3 ≡ (6, (0, 0, 0), Fails None)
unfolding computed
once_c = refl

once_c-told : told (0 ∷ []) two_facts (comp "once" (any_c ∷ [])) 1 1000000 3 ≡ (6, pos 0, nat 1 ∷ [], start_and_end) ∷ []
unfolding computed
once_c-told = refl

-- c(X), call(!)
abbrev called_cut : Term
called_cut = comp "," (any_c ∷ comp "call" (atom "!" ∷ []) ∷ [])

cut_stays_in_call : counted two_facts called_cut 1 1000000 3 ≡ (11, (0, 0, 0), Fails None)
unfolding computed
cut_stays_in_call = refl

cut_stays_in_call-told : told (0 ∷ []) two_facts called_cut 1 1000000 3 ≡ (7, pos 0, nat 1 ∷ [], start_and_end) ∷ (11, pos 0, nat 2 ∷ [], start_and_end) ∷ []
unfolding computed
cut_stays_in_call-told = refl

-- an error that main raises
abbrev raised : Term → Term
raised kind = comp "error" (kind ∷ atom "main" ∷ [])

call_unbound : counted [] (comp "call" (Var 0 ∷ [])) 1 1000000 1 ≡ (2, (0, 0, 0), Raised (raised (atom "instantiation_error")) (pos 0))
unfolding computed
call_unbound = refl

-- (fail, 1)
abbrev no_goal : Term
no_goal = comp "," (atom "fail" ∷ nat 1 ∷ [])

call_no_goal : counted [] (comp "call" (no_goal ∷ [])) 0 1000000 1 ≡ (2, (0, 0, 0), Raised (raised (comp "type_error" (atom "callable" ∷ no_goal ∷ []))) (pos 0))
unfolding computed
call_no_goal = refl

-- add(X,Y,p(X,Y)).
abbrev adds : Base
adds = fact "add" (Var 0 ∷ Var 1 ∷ comp "p" (Var 0 ∷ Var 1 ∷ []) ∷ []) 2 ∷ []

-- call(add(1), 2, R)
abbrev call_more : Term
call_more = comp "call" (comp "add" (nat 1 ∷ []) ∷ nat 2 ∷ Var 0 ∷ [])

more_arguments : told (0 ∷ []) adds call_more 1 1000000 3 ≡ (5, pos 0, comp "p" (nat 1 ∷ nat 2 ∷ []) ∷ [], start_and_end) ∷ []
unfolding computed
more_arguments = refl

call_integer : counted [] (comp "call" (nat 7 ∷ nat 1 ∷ [])) 0 1000000 1 ≡ (2, (0, 0, 0), Raised (raised (comp "type_error" (atom "callable" ∷ nat 7 ∷ []))) (pos 0))
unfolding computed
call_integer = refl

-- ---- numbers in order

-- between(1, 3, X)
abbrev to_three : Term
to_three = comp "between" (nat 1 ∷ nat 3 ∷ Var 0 ∷ [])

counts : counted [] to_three 1 1000000 5 ≡ (10, (0, 0, 0), Fails None)
unfolding computed
counts = refl

counts-told : told (0 ∷ []) [] to_three 1 1000000 5 ≡ (4, pos 0, nat 1 ∷ [], start_and_end) ∷ (7, pos 0, nat 2 ∷ [], start_and_end) ∷ (10, pos 0, nat 3 ∷ [], start_and_end) ∷ []
unfolding computed
counts-told = refl

counts_none : counted [] (comp "between" (nat 3 ∷ nat 1 ∷ Var 0 ∷ [])) 1 1000000 5 ≡ (2, (1, 0, 0), Fails None)
unfolding computed
counts_none = refl

counts_from_no_integer : counted [] (comp "between" (atom "a" ∷ Var 0 ∷ Var 1 ∷ [])) 2 1000000 1 ≡ (2, (0, 0, 0), Raised (raised (comp "type_error" (atom "integer" ∷ atom "a" ∷ []))) (pos 0))
unfolding computed
counts_from_no_integer = refl

-- ---- repeat

repeated : counted [] (atom "repeat") 0 1000000 3 ≡ (10, (0, 0, 0), Stopped)
unfolding computed
repeated = refl

repeated-told : told [] [] (atom "repeat") 0 1000000 3 ≡ (4, pos 0, [], start_and_end) ∷ (7, pos 0, [], start_and_end) ∷ (10, pos 0, [], start_and_end) ∷ []
unfolding computed
repeated-told = refl
