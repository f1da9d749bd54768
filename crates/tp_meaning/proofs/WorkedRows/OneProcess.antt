-- Worked rows of one process, computed: steps, counts and end of a search, and each answer's steps, clock, values and
-- history.
use Rattle.std.proofs.Common.{◌≡◌, List, [], ◌∷◌, None, Some, refl, pos}
use Rattle.tp_terms.specs.Term.{Term, Var, atom, comp, nat}
use Rattle.tp_meaning.specs.Subst.{mgu}
use Rattle.tp_meaning.specs.World.{Event, Start, End}
use Rattle.tp_meaning.specs.Search.{Stopped, Fails, Raised, Budget}
use Rattle.tp_meaning.specs.Clauses.{Base}
use Rattle.tp_meaning.proofs.WorkedRows.Seen.{fact, rule, at, counted, told, computed}

-- p(1). p(2).
abbrev two_facts : Base
two_facts = fact "p" (nat 1 ∷ []) 0 ∷ fact "p" (nat 2 ∷ []) 0 ∷ []

-- p(X)
abbrev any_p : Term
any_p = comp "p" (Var 0 ∷ [])

-- p(1). p(X) :- q(X).
abbrev fact_and_rule : Base
fact_and_rule = fact "p" (nat 1 ∷ []) 0 ∷ rule "p" (Var 0 ∷ []) (comp "q" (Var 0 ∷ [])) 1 ∷ []

-- p :- p.
abbrev endless : Base
endless = rule "p" [] (atom "p") 0 ∷ []

-- e(X,X).
abbrev equal : Base
equal = fact "e" (Var 0 ∷ Var 0 ∷ []) 1 ∷ []

-- main starts and ends at once
abbrev start_and_end : List Event
start_and_end = at 0 0 Start ∷ at 0 0 End ∷ []

-- no clause of this name and number of arguments
abbrev unknown : Term → Term
unknown name = comp "error" (comp "existence_error" (atom "procedure" ∷ name ∷ []) ∷ atom "main" ∷ [])

first_answer : counted two_facts any_p 1 1000000 1 ≡ (4, (0, 0, 0), Stopped)
unfolding computed
first_answer = refl

first_answer-told : told (0 ∷ []) two_facts any_p 1 1000000 1 ≡ (4, pos 0, nat 1 ∷ [], start_and_end) ∷ []
unfolding computed
first_answer-told = refl

all_answers : counted two_facts any_p 1 1000000 3 ≡ (6, (0, 0, 0), Fails None)
unfolding computed
all_answers = refl

all_answers-told : told (0 ∷ []) two_facts any_p 1 1000000 3 ≡ (4, pos 0, nat 1 ∷ [], start_and_end) ∷ (6, pos 0, nat 2 ∷ [], start_and_end) ∷ []
unfolding computed
all_answers-told = refl

budget_just_enough : counted two_facts any_p 1 6 3 ≡ (6, (0, 0, 0), Fails None)
unfolding computed
budget_just_enough = refl

budget_just_enough-told : told (0 ∷ []) two_facts any_p 1 6 3 ≡ (4, pos 0, nat 1 ∷ [], start_and_end) ∷ (6, pos 0, nat 2 ∷ [], start_and_end) ∷ []
unfolding computed
budget_just_enough-told = refl

budget_one_short : counted two_facts any_p 1 5 3 ≡ (5, (0, 0, 0), Budget)
unfolding computed
budget_one_short = refl

budget_one_short-told : told (0 ∷ []) two_facts any_p 1 5 3 ≡ (4, pos 0, nat 1 ∷ [], start_and_end) ∷ []
unfolding computed
budget_one_short-told = refl

true_goal : counted [] (atom "true") 0 1000000 1 ≡ (4, (0, 0, 0), Stopped)
unfolding computed
true_goal = refl

true_goal-told : told [] [] (atom "true") 0 1000000 1 ≡ (4, pos 0, [], start_and_end) ∷ []
unfolding computed
true_goal-told = refl

unknown_goal : counted [] (atom "q") 0 1000000 1 ≡ (2, (0, 0, 0), Raised (unknown (comp "/" (atom "q" ∷ nat 0 ∷ []))) (pos 0))
unfolding computed
unknown_goal = refl

no_match : counted two_facts (comp "p" (nat 3 ∷ [])) 0 1000000 1 ≡ (2, (1, 0, 0), Fails None)
unfolding computed
no_match = refl

endless_search : counted endless (atom "p") 0 200 1 ≡ (200, (0, 0, 0), Budget)
unfolding computed
endless_search = refl

error_after_answer : counted fact_and_rule any_p 1 1000000 2 ≡ (5, (0, 0, 0), Raised (unknown (comp "/" (atom "q" ∷ nat 1 ∷ []))) (pos 0))
unfolding computed
error_after_answer = refl

error_after_answer-told : told (0 ∷ []) fact_and_rule any_p 1 1000000 2 ≡ (4, pos 0, nat 1 ∷ [], start_and_end) ∷ []
unfolding computed
error_after_answer-told = refl

occurs_in_itself : counted equal (comp "e" (Var 0 ∷ comp "f" (Var 0 ∷ []) ∷ [])) 1 1000000 1 ≡ (2, (1, 0, 0), Fails None)
unfolding computed
occurs_in_itself = refl

older_name : counted equal (comp "e" (Var 0 ∷ Var 1 ∷ [])) 2 1000000 1 ≡ (4, (0, 0, 0), Stopped)
unfolding computed
older_name = refl

older_name-told : told (0 ∷ 1 ∷ []) equal (comp "e" (Var 0 ∷ Var 1 ∷ [])) 2 1000000 1 ≡ (4, pos 0, Var 0 ∷ Var 0 ∷ [], start_and_end) ∷ []
unfolding computed
older_name-told = refl

-- ---- unifiers

both_sides_bind : mgu [] (comp "f" (Var 0 ∷ atom "b" ∷ [])) (comp "f" (atom "a" ∷ Var 1 ∷ [])) ≡ Some ((0, atom "a") ∷ (1, atom "b") ∷ [])
unfolding computed
both_sides_bind = refl

variable_in_its_term : mgu [] (Var 0) (comp "f" (Var 0 ∷ [])) ≡ None
unfolding computed
variable_in_its_term = refl

younger_takes_older : mgu ((0, Var 1) ∷ []) (Var 0) (Var 2) ≡ Some ((0, Var 1) ∷ (2, Var 1) ∷ [])
unfolding computed
younger_takes_older = refl
