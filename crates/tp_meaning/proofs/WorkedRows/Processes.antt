-- Worked rows of processes, computed: their model and goal stand above each.
use Rattle.std.proofs.Common.{◌≡◌, List, [], ◌∷◌, None, refl, pos, negsuc, codes}
use Prim.Native.String.{String}
use Rattle.tp_terms.specs.Term.{Term, Var, Int, atom, comp, nat}
use Rattle.tp_meaning.specs.World.{New, Start, End, Hold, Send, Take, Note, At, Inf}
use Rattle.tp_meaning.specs.Arith.{evaluated}
use Rattle.tp_meaning.specs.Search.{Fails, Raised}
use Rattle.tp_meaning.specs.Clauses.{Base}
use Rattle.tp_meaning.proofs.WorkedRows.Seen.{fact, rule, at, counted, told, computed, Counted}

-- w :- hold(5).  new(w,a,0,5)
abbrev holds_in_time-model : Base
holds_in_time-model = rule "w" [] (comp "hold" (nat 5 ∷ [])) 0 ∷ []

abbrev holds_in_time-goal : Term
holds_in_time-goal = comp "new" (atom "w" ∷ atom "a" ∷ nat 0 ∷ nat 5 ∷ [])

holds_in_time-told : told [] holds_in_time-model holds_in_time-goal 0 1000000 1 ≡ (10, pos 5, [], at 0 0 Start ∷ at 0 0 (New (codes "a") (pos 0) (At (pos 5))) ∷ at 0 0 End ∷ at 0 1 Start ∷ at 0 1 (Hold (pos 5)) ∷ at 5 1 End ∷ []) ∷ []
unfolding computed evaluated
holds_in_time-told = refl

-- w :- hold(6).  new(w,a,0,5)
abbrev held_too_long-model : Base
held_too_long-model = rule "w" [] (comp "hold" (nat 6 ∷ [])) 0 ∷ []

abbrev held_too_long-goal : Term
held_too_long-goal = comp "new" (atom "w" ∷ atom "a" ∷ nat 0 ∷ nat 5 ∷ [])

held_too_long : counted held_too_long-model held_too_long-goal 0 1000000 1 ≡ (8, (0, 0, 1), Fails None)
unfolding computed evaluated
held_too_long = refl

-- job :- hold(3), way(X), note(X), hold(6), X = b. way(a). way(b).  job
abbrev goes_back_in_time-model : Base
goes_back_in_time-model = rule "job" [] (comp "," ((comp "hold" (nat 3 ∷ [])) ∷ (comp "," ((comp "way" (Var 0 ∷ [])) ∷ (comp "," ((comp "note" (Var 0 ∷ [])) ∷ (comp "," ((comp "hold" (nat 6 ∷ [])) ∷ (comp "=" (Var 0 ∷ atom "b" ∷ [])) ∷ [])) ∷ [])) ∷ [])) ∷ [])) 1 ∷ fact "way" (atom "a" ∷ []) 0 ∷ fact "way" (atom "b" ∷ []) 0 ∷ []

abbrev goes_back_in_time-goal : Term
goes_back_in_time-goal = (atom "job")

goes_back_in_time-told : told [] goes_back_in_time-model goes_back_in_time-goal 0 1000000 1 ≡ (21, pos 9, [], at 0 0 Start ∷ at 0 0 (Hold (pos 3)) ∷ at 3 0 (Note (atom "b")) ∷ at 3 0 (Hold (pos 6)) ∷ at 9 0 End ∷ []) ∷ []
unfolding computed evaluated
goes_back_in_time-told = refl

-- a :- wait_for(go).  new(a,a,0,inf), (true ; send(go,a))
abbrev sender_chosen_later-model : Base
sender_chosen_later-model = rule "a" [] (comp "wait_for" (atom "go" ∷ [])) 0 ∷ []

abbrev sender_chosen_later-goal : Term
sender_chosen_later-goal = comp "," ((comp "new" (atom "a" ∷ atom "a" ∷ nat 0 ∷ atom "inf" ∷ [])) ∷ (comp ";" (atom "true" ∷ (comp "send" (atom "go" ∷ atom "a" ∷ [])) ∷ [])) ∷ [])

sender_chosen_later-told : told [] sender_chosen_later-model sender_chosen_later-goal 0 1000000 1 ≡ (19, pos 0, [], at 0 0 Start ∷ at 0 0 (New (codes "a") (pos 0) Inf) ∷ at 0 0 (Send (atom "go") 1) ∷ at 0 0 End ∷ at 0 1 Start ∷ at 0 1 (Take (atom "go")) ∷ at 0 1 End ∷ []) ∷ []
unfolding computed evaluated
sender_chosen_later-told = refl

-- a :- wait_for(go).  new(a,a,0,inf)
abbrev awaits_for_ever-model : Base
awaits_for_ever-model = rule "a" [] (comp "wait_for" (atom "go" ∷ [])) 0 ∷ []

abbrev awaits_for_ever-goal : Term
awaits_for_ever-goal = comp "new" (atom "a" ∷ atom "a" ∷ nat 0 ∷ atom "inf" ∷ [])

awaits_for_ever : counted awaits_for_ever-model awaits_for_ever-goal 0 1000000 1 ≡ (8, (0, 1, 0), Fails None)
unfolding computed evaluated
awaits_for_ever = refl

-- send(m(2),main), send(m(1),main), wait_for(m(X)), X = 1
abbrev goes_back_to_a_later_message-model : Base
goes_back_to_a_later_message-model = []

abbrev goes_back_to_a_later_message-goal : Term
goes_back_to_a_later_message-goal = comp "," ((comp "send" ((comp "m" (nat 2 ∷ [])) ∷ atom "main" ∷ [])) ∷ (comp "," ((comp "send" ((comp "m" (nat 1 ∷ [])) ∷ atom "main" ∷ [])) ∷ (comp "," ((comp "wait_for" ((comp "m" (Var 0 ∷ [])) ∷ [])) ∷ (comp "=" (Var 0 ∷ nat 1 ∷ [])) ∷ [])) ∷ [])) ∷ [])

goes_back_to_a_later_message-told : told (0 ∷ []) goes_back_to_a_later_message-model goes_back_to_a_later_message-goal 1 1000000 1 ≡ (11, pos 0, nat 1 ∷ [], at 0 0 Start ∷ at 0 0 (Send (comp "m" (nat 2 ∷ [])) 0) ∷ at 0 0 (Send (comp "m" (nat 1 ∷ [])) 0) ∷ at 0 0 (Take (comp "m" (nat 1 ∷ []))) ∷ at 0 0 End ∷ []) ∷ []
unfolding computed evaluated
goes_back_to_a_later_message-told = refl

-- send(a,main), send(b,main), (wait_for(a), fail ; wait_for(X))
abbrev message_put_back-model : Base
message_put_back-model = []

abbrev message_put_back-goal : Term
message_put_back-goal = comp "," ((comp "send" (atom "a" ∷ atom "main" ∷ [])) ∷ (comp "," ((comp "send" (atom "b" ∷ atom "main" ∷ [])) ∷ (comp ";" ((comp "," ((comp "wait_for" (atom "a" ∷ [])) ∷ atom "fail" ∷ [])) ∷ (comp "wait_for" (Var 0 ∷ [])) ∷ [])) ∷ [])) ∷ [])

message_put_back-told : told (0 ∷ []) message_put_back-model message_put_back-goal 1 1000000 1 ≡ (12, pos 0, atom "a" ∷ [], at 0 0 Start ∷ at 0 0 (Send (atom "a") 0) ∷ at 0 0 (Send (atom "b") 0) ∷ at 0 0 (Take (atom "a")) ∷ at 0 0 End ∷ []) ∷ []
unfolding computed evaluated
message_put_back-told = refl

-- p :- wait(fail).  new(p,a,0,inf), new(p,b,0,inf)
abbrev waits_that_never_hold-model : Base
waits_that_never_hold-model = rule "p" [] (comp "wait" (atom "fail" ∷ [])) 0 ∷ []

abbrev waits_that_never_hold-goal : Term
waits_that_never_hold-goal = comp "," ((comp "new" (atom "p" ∷ atom "a" ∷ nat 0 ∷ atom "inf" ∷ [])) ∷ (comp "new" (atom "p" ∷ atom "b" ∷ nat 0 ∷ atom "inf" ∷ [])) ∷ [])

waits_that_never_hold : counted waits_that_never_hold-model waits_that_never_hold-goal 0 1000000 1 ≡ (19, (3, 1, 0), Fails None)
unfolding computed evaluated
waits_that_never_hold = refl

-- pick(1). pick(2). q :- pick(_), hold(1), !, pick(_), hold(5). p :- hold(2), !, fail.  new(q,q,0,inf), new(p,p,0,inf)
abbrev cuts_that_cross-model : Base
cuts_that_cross-model = fact "pick" (nat 1 ∷ []) 0 ∷ fact "pick" (nat 2 ∷ []) 0 ∷ rule "q" [] (comp "," ((comp "pick" (Var 0 ∷ [])) ∷ (comp "," ((comp "hold" (nat 1 ∷ [])) ∷ (comp "," (atom "!" ∷ (comp "," ((comp "pick" (Var 1 ∷ [])) ∷ (comp "hold" (nat 5 ∷ [])) ∷ [])) ∷ [])) ∷ [])) ∷ [])) 2 ∷ rule "p" [] (comp "," ((comp "hold" (nat 2 ∷ [])) ∷ (comp "," (atom "!" ∷ atom "fail" ∷ [])) ∷ [])) 0 ∷ []

abbrev cuts_that_cross-goal : Term
cuts_that_cross-goal = comp "," ((comp "new" (atom "q" ∷ atom "q" ∷ nat 0 ∷ atom "inf" ∷ [])) ∷ (comp "new" (atom "p" ∷ atom "p" ∷ nat 0 ∷ atom "inf" ∷ [])) ∷ [])

cuts_that_cross : counted cuts_that_cross-model cuts_that_cross-goal 0 1000000 1 ≡ (27, (1, 0, 0), Fails None)
unfolding computed evaluated
cuts_that_cross = refl

-- r :- wait_for(X), note(got(X)).  new(r,r,0,inf), hold(2), send(hi,r)
abbrev receiver_woken-model : Base
receiver_woken-model = rule "r" [] (comp "," ((comp "wait_for" (Var 0 ∷ [])) ∷ (comp "note" ((comp "got" (Var 0 ∷ [])) ∷ [])) ∷ [])) 1 ∷ []

abbrev receiver_woken-goal : Term
receiver_woken-goal = comp "," ((comp "new" (atom "r" ∷ atom "r" ∷ nat 0 ∷ atom "inf" ∷ [])) ∷ (comp "," ((comp "hold" (nat 2 ∷ [])) ∷ (comp "send" (atom "hi" ∷ atom "r" ∷ [])) ∷ [])) ∷ [])

receiver_woken-told : told [] receiver_woken-model receiver_woken-goal 0 1000000 1 ≡ (18, pos 2, [], at 0 0 Start ∷ at 0 0 (New (codes "r") (pos 0) Inf) ∷ at 0 0 (Hold (pos 2)) ∷ at 0 1 Start ∷ at 2 0 (Send (atom "hi") 1) ∷ at 2 0 End ∷ at 2 1 (Take (atom "hi")) ∷ at 2 1 (Note (comp "got" (atom "hi" ∷ []))) ∷ at 2 1 End ∷ []) ∷ []
unfolding computed evaluated
receiver_woken-told = refl

-- k(X) :- wait(nonvar(X)), note(X).  new(k(X),k,0,inf), hold(1), X = 7
abbrev condition_tried_again-model : Base
condition_tried_again-model = rule "k" (Var 0 ∷ []) (comp "," ((comp "wait" ((comp "nonvar" (Var 0 ∷ [])) ∷ [])) ∷ (comp "note" (Var 0 ∷ [])) ∷ [])) 1 ∷ []

abbrev condition_tried_again-goal : Term
condition_tried_again-goal = comp "," ((comp "new" ((comp "k" (Var 0 ∷ [])) ∷ atom "k" ∷ nat 0 ∷ atom "inf" ∷ [])) ∷ (comp "," ((comp "hold" (nat 1 ∷ [])) ∷ (comp "=" (Var 0 ∷ nat 7 ∷ [])) ∷ [])) ∷ [])

condition_tried_again-told : told (0 ∷ []) condition_tried_again-model condition_tried_again-goal 1 1000000 1 ≡ (21, pos 1, nat 7 ∷ [], at 0 0 Start ∷ at 0 0 (New (codes "k") (pos 0) Inf) ∷ at 0 0 (Hold (pos 1)) ∷ at 0 1 Start ∷ at 1 0 End ∷ at 1 1 (Note (nat 7)) ∷ at 1 1 End ∷ []) ∷ []
unfolding computed evaluated
condition_tried_again-told = refl

-- w :- note(w).  new(w,a,0,inf), hold(0), note(m)
abbrev equal_times-model : Base
equal_times-model = rule "w" [] (comp "note" (atom "w" ∷ [])) 0 ∷ []

abbrev equal_times-goal : Term
equal_times-goal = comp "," ((comp "new" (atom "w" ∷ atom "a" ∷ nat 0 ∷ atom "inf" ∷ [])) ∷ (comp "," ((comp "hold" (nat 0 ∷ [])) ∷ (comp "note" (atom "m" ∷ [])) ∷ [])) ∷ [])

equal_times-told : told [] equal_times-model equal_times-goal 0 1000000 1 ≡ (14, pos 0, [], at 0 0 Start ∷ at 0 0 (New (codes "a") (pos 0) Inf) ∷ at 0 0 (Hold (pos 0)) ∷ at 0 1 Start ∷ at 0 1 (Note (atom "w")) ∷ at 0 1 End ∷ at 0 0 (Note (atom "m")) ∷ at 0 0 End ∷ []) ∷ []
unfolding computed evaluated
equal_times-told = refl

-- k(X) :- wait(nonvar(X)), note(X).  new(k(X),a,0,inf), new(k(Y),b,0,inf), hold(1), Y = 7, hold(1), X = 1
abbrev retry_marks_none-model : Base
retry_marks_none-model = rule "k" (Var 0 ∷ []) (comp "," ((comp "wait" ((comp "nonvar" (Var 0 ∷ [])) ∷ [])) ∷ (comp "note" (Var 0 ∷ [])) ∷ [])) 1 ∷ []

abbrev retry_marks_none-goal : Term
retry_marks_none-goal = comp "," ((comp "new" ((comp "k" (Var 0 ∷ [])) ∷ atom "a" ∷ nat 0 ∷ atom "inf" ∷ [])) ∷ (comp "," ((comp "new" ((comp "k" (Var 1 ∷ [])) ∷ atom "b" ∷ nat 0 ∷ atom "inf" ∷ [])) ∷ (comp "," ((comp "hold" (nat 1 ∷ [])) ∷ (comp "," ((comp "=" (Var 1 ∷ nat 7 ∷ [])) ∷ (comp "," ((comp "hold" (nat 1 ∷ [])) ∷ (comp "=" (Var 0 ∷ nat 1 ∷ [])) ∷ [])) ∷ [])) ∷ [])) ∷ [])) ∷ [])

retry_marks_none-told : told (0 ∷ 1 ∷ []) retry_marks_none-model retry_marks_none-goal 2 1000000 1 ≡ (49, pos 2, nat 1 ∷ nat 7 ∷ [], at 0 0 Start ∷ at 0 0 (New (codes "a") (pos 0) Inf) ∷ at 0 0 (New (codes "b") (pos 0) Inf) ∷ at 0 0 (Hold (pos 1)) ∷ at 0 1 Start ∷ at 0 2 Start ∷ at 1 0 (Hold (pos 1)) ∷ at 1 2 (Note (nat 7)) ∷ at 1 2 End ∷ at 2 0 End ∷ at 2 1 (Note (nat 1)) ∷ at 2 1 End ∷ []) ∷ []
unfolding computed evaluated
retry_marks_none-told = refl

-- ---- errors

-- main raises an error of this kind as its first goal
abbrev raised : Term → Counted
raised kind = (2, (0, 0, 0), Raised (comp "error" (kind ∷ atom "main" ∷ [])) (pos 0))

-- new(true,main,0,inf)
name_in_use : counted [] (comp "new" (atom "true" ∷ atom "main" ∷ nat 0 ∷ atom "inf" ∷ [])) 0 1000000 1 ≡ raised (comp "permission_error" (atom "create" ∷ atom "process" ∷ atom "main" ∷ []))
unfolding computed evaluated
name_in_use = refl

-- new(true,[],0,inf)
name_of_a_list : counted [] (comp "new" (atom "true" ∷ atom "[]" ∷ nat 0 ∷ atom "inf" ∷ [])) 0 1000000 1 ≡ raised (comp "domain_error" (atom "process_name" ∷ atom "[]" ∷ []))
unfolding computed evaluated
name_of_a_list = refl

-- new(7,a,0,inf)
goal_of_no_kind : counted [] (comp "new" (nat 7 ∷ atom "a" ∷ nat 0 ∷ atom "inf" ∷ [])) 0 1000000 1 ≡ raised (comp "type_error" (atom "callable" ∷ nat 7 ∷ []))
unfolding computed evaluated
goal_of_no_kind = refl

-- new(true,a,-1,inf)
starts_in_the_past : counted [] (comp "new" (atom "true" ∷ atom "a" ∷ Int (negsuc 0) ∷ atom "inf" ∷ [])) 0 1000000 1 ≡ raised (comp "domain_error" (atom "start_time" ∷ Int (negsuc 0) ∷ []))
unfolding computed evaluated
starts_in_the_past = refl

-- new(true,a,3,2)
ends_before_it_starts : counted [] (comp "new" (atom "true" ∷ atom "a" ∷ nat 3 ∷ nat 2 ∷ [])) 0 1000000 1 ≡ raised (comp "domain_error" (atom "end_time" ∷ nat 2 ∷ []))
unfolding computed evaluated
ends_before_it_starts = refl

-- hold(-1)
held_for_less_than_nothing : counted [] (comp "hold" (Int (negsuc 0) ∷ [])) 0 1000000 1 ≡ raised (comp "domain_error" (atom "not_less_than_zero" ∷ Int (negsuc 0) ∷ []))
unfolding computed evaluated
held_for_less_than_nothing = refl

-- hold(X)
held_for_ever : counted [] (comp "hold" (Var 0 ∷ [])) 1 1000000 1 ≡ raised (atom "instantiation_error")
unfolding computed evaluated
held_for_ever = refl

-- send(x,nobody)
sent_to_nobody : counted [] (comp "send" (atom "x" ∷ atom "nobody" ∷ [])) 0 1000000 1 ≡ raised (comp "existence_error" (atom "process" ∷ atom "nobody" ∷ []))
unfolding computed evaluated
sent_to_nobody = refl

-- send(x,7)
sent_to_a_number : counted [] (comp "send" (atom "x" ∷ nat 7 ∷ [])) 0 1000000 1 ≡ raised (comp "type_error" (atom "list" ∷ nat 7 ∷ []))
unfolding computed evaluated
sent_to_a_number = refl

-- send(x,[main|X])
sent_to_no_whole_list : counted [] (comp "send" (atom "x" ∷ comp "." (atom "main" ∷ Var 0 ∷ []) ∷ [])) 1 1000000 1 ≡ raised (atom "instantiation_error")
unfolding computed evaluated
sent_to_no_whole_list = refl

-- wait(7)
waits_for_no_goal : counted [] (comp "wait" (nat 7 ∷ [])) 0 1000000 1 ≡ raised (comp "type_error" (atom "callable" ∷ nat 7 ∷ []))
unfolding computed evaluated
waits_for_no_goal = refl
