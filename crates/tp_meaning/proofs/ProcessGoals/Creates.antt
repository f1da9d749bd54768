-- Worlds with a new process are valid.
use Rattle.std.proofs.Common.{◌≡◌, ℕ, zero, suc, ◌+◌, ◌≤◌, ◌<◌, Bool, true, false, nat_eq, List, [], ◌∷◌, ◌++◌, map, length, Option, Some, None, Ok, Err, IfOk, IfSome, is_some, ℤ, int_le, int_lt, refl, ap, ◌∙◌, sym, arith, if◌then◌else◌}
use mathlib.Core.Path.{subst}
use Rattle.std.specs.List.{AllByRecursion}
use Rattle.std.proofs.lemmas.Bool.{eqb-true, eq-eqb, ne_eqb, eqb-false}
use Rattle.std.proofs.lemmas.Slice.Eq.{bytes_eq-Decides}
use Rattle.tp_terms.specs.Term.{Name, Term, Int, names_eq, comp}
use Rattle.tp_meaning.specs.Arith.{value}
use Rattle.tp_meaning.specs.Checks.{◌if◌, domain_error, permission_error, bound, callable, name_in}
use Rattle.tp_meaning.specs.World.{World, Process, Limit, At, Inf, Scheduled, Ended, Goal, Slot, EventKind, New, Start, End, Hold, Send, Take, Note, at_place, status_at, with_slot, number_of}
use Rattle.tp_meaning.specs.Turn.{Turn, Gives, going}
use Rattle.tp_meaning.specs.Process as act
use Rattle.tp_meaning.specs.Process.{new_name, end_of, end_from, not_empty_list, is_inf, with_new, created}
use Rattle.tp_meaning.specs.Valid.{Below, AreDistinct, IsNew, SlotFits, slots_of, due, KindFits, EventFits, busy, waits_or_runs, is_running, is_at, Valid, EachFollows}
use Rattle.tp_meaning.proofs.ValidWorlds.Places.{all-weaker, all-append, length-at_place}
use Rattle.tp_meaning.proofs.ValidWorlds.Keeps.{busy-same, after-ok, after-check}
use Rattle.tp_meaning.proofs.ValidWorlds.Acts.{int_le-trans}
use Rattle.tp_meaning.proofs.ValidWorlds.Leaves.{event-valid}
use Rattle.tp_meaning.proofs.ValidWorlds.Goes.{TurnFits, later, goes, known_in}
use Rattle.tp_meaning.proofs.ProcessGoals.Slots.{all-put, order-put, slots-put, le-not_lt, not-lt}
use Rattle.tp_meaning.proofs.ProcessGoals.Waits.{after-if, always-ok}

-- ---- lists with one element more

length-more : {A : Type 0} (xs : List A) (x : A) → length (xs ++ x ∷ []) ≡ suc (length xs)
length-more [] x = refl
length-more (y ∷ ys) x = ap suc (length-more ys x)

map-more : {A B : Type 0} (f : A → B) (xs : List A) (x : A) → map f (xs ++ x ∷ []) ≡ map f xs ++ f x ∷ []
map-more f [] x = refl
map-more f (y ∷ ys) x = ap (λ zs. f y ∷ zs) (map-more f ys x)

busy-more : (ps : List Process) (q : Process) → busy (ps ++ q ∷ []) ≡ busy ps + waits_or_runs q.status
busy-more [] q = omega arith
busy-more (x ∷ xs) q = let h = busy-more xs q in omega arith

status-more : (ps : List Process) (q : Process) (r : ℕ) → status_at (ps ++ q ∷ []) r ≡ (if nat_eq r (length ps) then q.status else status_at ps r)
status-more [] q zero = refl
status-more [] q (suc r) = ap (λ b. if b then q.status else Ended) (sym (ne_eqb (suc r) 0 (λ e. absurd (omega arith))))
status-more (x ∷ xs) q zero = ap (λ b. if b then q.status else x.status) (sym (ne_eqb 0 (suc (length xs)) (λ e. absurd (omega arith))))
status-more (x ∷ xs) q (suc r) = status-more xs q r ∙ ap (λ b. if b then q.status else status_at xs r) (same r (length xs))
  where
    same : (a b : ℕ) → nat_eq a b ≡ nat_eq (suc a) (suc b)
    same a b = go (nat_eq a b) refl
      where
        go : (c : Bool) → nat_eq a b ≡ c → c ≡ nat_eq (suc a) (suc b)
        go true e = sym (eq-eqb (suc a) (suc b) (ap suc (eqb-true a b e)))
        go false e = sym (ne_eqb (suc a) (suc b) (λ h. eqb-false a b e (omega arith)))

-- ---- names

name-clash : (m n : Name) → names_eq n m ≡ false → names_eq m n ≡ false
name-clash m n h = go (names_eq m n) refl
  where
    go : (b : Bool) → names_eq m n ≡ b → b ≡ false
    go false e = refl
    go true e = absurd (let i : m ≡ n = (bytes_eq-Decides m n).0 e in let k : names_eq n m ≡ true = (bytes_eq-Decides n m).1 (sym i) in let z = sym h ∙ k in cc)

distinct-more : (ns : List Name) (n : Name) → AreDistinct ns → IsNew n ns → AreDistinct (ns ++ n ∷ [])
distinct-more [] n d h = (tt, tt)
distinct-more (m ∷ ms) n d h = (all-append (λ k. names_eq m k ≡ false) ms (n ∷ []) d.0 (name-clash m n h.0, tt), distinct-more ms n d.1 h.1)

new-is : (n : Name) (ps : List Process) → is_some (number_of n ps) ≡ false → IsNew n (map (λ q. q.name) ps)
new-is n [] h = tt
new-is n (q ∷ qs) h = go (new-is n qs) (names_eq n q.name) refl (number_of n qs) refl h
  where
    go : (is_some (number_of n qs) ≡ false → IsNew n (map (λ q. q.name) qs)) → (b : Bool) → names_eq n q.name ≡ b → (o : Option ℕ) → number_of n qs ≡ o → is_some (if◌then◌else◌ {A = Option ℕ} b (Some 0) (elim o [ None ↦ None | Some p ↦ Some (suc p) ])) ≡ false → (names_eq n q.name ≡ false) × IsNew n (map (λ q. q.name) qs)
    go r true e o i h = absurd (cc)
    go r false e None i h = (e, r (ap is_some i))
    go r false e (Some p) i h = absurd (cc)

number-same : (n : Name) (f : Process → Process) → ((q : Process) → (f q).name ≡ q.name) → (p : ℕ) (ps : List Process) → number_of n (at_place p f ps) ≡ number_of n ps
number-same n f h p [] = refl
number-same n f h zero (x ∷ xs) = ap (λ m. if◌then◌else◌ {A = Option ℕ} (names_eq n m) (Some 0) (elim (number_of n xs) [ None ↦ None | Some k ↦ Some (suc k) ])) (h x)
number-same n f h (suc p) (x ∷ xs) = ap (λ o. if◌then◌else◌ {A = Option ℕ} (names_eq n x.name) (Some 0) (elim o [ None ↦ None | Some k ↦ Some (suc k) ])) (number-same n f h p xs)

-- ---- new

abbrev LimitFits : ℤ → Limit → Type 0
LimitFits s l = elim l [ Inf ↦ false | At e ↦ int_lt e s ] ≡ false

late-from : (c s : ℤ) (l : Limit) → int_le c s ≡ true → LimitFits s l → elim l [ Inf ↦ false | At e ↦ int_lt e c ] ≡ false
late-from c s Inf h f = refl
late-from c s (At e) h f = le-not_lt e c (int_le-trans c s e h (not-lt e s f))

slots-past : (n : ℕ) (c : ℤ) (i r : ℕ) → n ≤ r → (fs : List Slot) → AllByRecursion (SlotFits n c i) fs → slots_of r fs ≡ 0
slots-past n c i r le [] a = refl
slots-past n c i r le (f ∷ fs) a =
    ap (λ b. (if b then 1 else 0) + slots_of r fs) (ne_eqb r f.process (λ e. let h = a.0.0 in let k : r ≡ f.process = e in omega arith))
    ∙ (let z = slots-past n c i r le fs a.1 in omega arith)

kind-more : (count n : ℕ) (k : EventKind) → KindFits count n k → KindFits (suc count) n k
kind-more count n (New a s l) h = h
kind-more count n Start h = h
kind-more count n End h = h
kind-more count n (Hold d) h = h
kind-more count n (Send m p) h = (h.0, let x = h.1 in omega arith)
kind-more count n (Take m) h = h
kind-more count n (Note m) h = h

new-valid : (w : World) (g : Term) (n : Name) (s : ℤ) (l : Limit) → Valid w → w.insertion + busy w.processes ≤ w.stamp → Below w.next g → is_some (number_of n w.processes) ≡ false → int_le w.clock s ≡ true → LimitFits s l → Valid (with_slot (length w.processes) s (with_new g n l w))
new-valid w g n s l v room b new le lim =
    let q : Process = record { name = n; limit = l; started = false; status = Scheduled; items = Goal (comp "call" (g ∷ [])) 0 ∷ [] } in
    let e : Slot = record { time = s; number = w.insertion; process = length w.processes } in
    let len : length (w.processes ++ q ∷ []) ≡ suc (length w.processes) = length-more w.processes q in
    record {
      distinct = rw (map-more (λ q. q.name) w.processes q) (distinct-more (map (λ q. q.name) w.processes) n v.distinct (new-is n w.processes new));
      box_each = length-more w.boxes [] ∙ ap suc v.box_each ∙ sym len;
      entries = rw len (all-put (SlotFits (suc (length w.processes)) w.clock (w.insertion + 1)) e w.calendar (omega arith, le, omega arith) (all-weaker (SlotFits (length w.processes) w.clock w.insertion) (SlotFits (suc (length w.processes)) w.clock (w.insertion + 1)) (λ f h. (let x = h.0 in omega arith, h.1, let x = h.2 in omega arith)) w.calendar v.entries));
      in_order = order-put e w.calendar (all-weaker (SlotFits (length w.processes) w.clock w.insertion) (λ f. f.number < w.insertion) (λ f h. h.2) w.calendar v.entries) v.in_order;
      placed = λ r. slots-put r e w.calendar ∙ placed q r (nat_eq r (length w.processes)) refl ∙ ap due (sym (status-more w.processes q r));
      one_runs = λ r. ap is_running (status-more w.processes q r) ∙ runs q r (nat_eq r (length w.processes)) refl;
      from_zero = v.from_zero;
      none_late = all-append _ w.processes (q ∷ []) v.none_late (late-from w.clock s l le lim, tt);
      events = rw len (all-weaker (EventFits (length w.processes) w.next w.clock) (EventFits (suc (length w.processes)) w.next w.clock) (λ x h. record { known = let k = h.known in omega arith; fits = kind-more (length w.processes) w.next x.kind h.fits; past = h.past }) w.history v.events);
      todo = all-append _ w.processes (q ∷ []) v.todo ((((b, tt), omega arith), tt), tt);
      mail = all-append _ w.boxes ([] ∷ []) v.mail (tt, tt);
      bindings = v.bindings;
      is_subst = v.is_subst;
      insertions = let h = busy-more w.processes q in omega arith;
    }
  where
    placed : (q : Process) (r : ℕ) (b : Bool) → nat_eq r (length w.processes) ≡ b → (if b then 1 else 0) + slots_of r w.calendar ≡ due (if b then Scheduled else status_at w.processes r)
    placed q r true h = let z = slots-past (length w.processes) w.clock w.insertion r (let e = eqb-true r (length w.processes) h in omega arith) w.calendar v.entries in omega arith
    placed q r false h = let z = v.placed r in omega arith

    runs : (q : Process) (r : ℕ) (b : Bool) → nat_eq r (length w.processes) ≡ b → is_running (if b then Scheduled else status_at w.processes r) ≡ is_at w.running r
    runs q r true h = sym (past_end r (let e = eqb-true r (length w.processes) h in omega arith)) ∙ v.one_runs r
      where
        past_all : (ps : List Process) (r : ℕ) → length ps ≤ r → is_running (status_at ps r) ≡ false
        past_all [] r le = refl
        past_all (x ∷ xs) zero le = absurd (omega arith)
        past_all (x ∷ xs) (suc r) le = past_all xs r (omega arith)

        past_end : (r : ℕ) → length w.processes ≤ r → is_running (status_at w.processes r) ≡ false
        past_end r le = past_all w.processes r le
    runs q r false h = v.one_runs r

new_name-is : (w : World) (t : Term) → IfOk (new_name w t) (λ n. is_some (number_of n w.processes) ≡ false)
new_name-is w t =
    after-check _ (bound t) _ (after-ok (λ n. Unit {0}) _ (name_in t) _ (always-ok (name_in t)) (λ n _.
    after-check _ (not_empty_list n) _ (after-if _ (permission_error "create" "process" t) (is_some (number_of n w.processes)) _ (λ h. h))))

end_of-is : (w : World) (s : ℤ) (t : Term) → IfOk (end_of w s t) (LimitFits s)
end_of-is w s t = go (is_inf t)
  where
    go : (b : Bool) → IfOk (if b then Ok Inf else end_from w s t) (LimitFits s)
    go true = refl
    go false = after-ok (λ e. Unit {0}) (LimitFits s) (value w.subst t) _ (always-ok (value w.subst t)) (λ e _. after-if (LimitFits s) (domain_error "end_time" (Int e)) (int_lt e s) _ (λ h. h))

-- the world with a new process follows
pub create-follows : (t : Turn) (g name start limit : Term) → TurnFits t → Below t.world.next g → IfOk (act.create t g name start limit) (EachFollows t.world)
create-follows t g name start limit f h =
    after-check Q (bound g) _ (after-check Q (callable g) _
    (after-ok (λ n. is_some (number_of n t.world.processes) ≡ false) Q (new_name t.world name) _ (new_name-is t.world name) (λ n new.
    after-ok (λ s. Unit {0}) Q (value t.world.subst start) _ (always-ok (value t.world.subst start)) (λ s _.
    after-if Q (domain_error "start_time" (Int s)) (int_lt s t.world.clock) _ (λ le.
    after-ok (LimitFits s) Q (end_of t.world s limit) _ (end_of-is t.world s limit) (λ l lim.
    (record { valid = made n s l new (not-lt s t.world.clock le) lim; stamp = refl; next = omega arith }, tt)))))))
  where
    Q : Gives → Type 0
    Q = EachFollows t.world

    w : World
    w = going t t.rest

    v : Valid w
    v = goes t t.rest f (later t f)

    len : length w.processes ≡ length t.world.processes
    len = length-at_place (λ q. record q { items = t.rest }) t.process t.world.processes

    busy-len : busy w.processes ≡ busy t.world.processes
    busy-len = busy-same (λ q. record q { items = t.rest }) (λ q. refl) t.process t.world.processes

    room : w.insertion + busy w.processes ≤ w.stamp
    room = let i : t.world.insertion + busy t.world.processes ≤ t.world.stamp + 1 = f.valid.insertions in rw busy-len i

    made : (n : Name) (s : ℤ) (l : Limit) → is_some (number_of n t.world.processes) ≡ false → int_le t.world.clock s ≡ true → LimitFits s l → Valid (created t g n s l)
    made n s l new le lim =
        let new' : is_some (number_of n w.processes) ≡ false = ap is_some (number-same n (λ q. record q { items = t.rest }) (λ q. refl) t.process t.world.processes) ∙ new in
        let k = known_in t t.rest f (later t f) in
        event-valid (with_slot (length t.world.processes) s (with_new g n l w)) t.process (New n s l)
        (subst (λ p. Valid (with_slot p s (with_new g n l w))) len (new-valid w g n s l v room h new' le lim))
        (rw (length-more w.processes (record { name = n; limit = l; started = false; status = Scheduled; items = Goal (comp "call" (g ∷ [])) 0 ∷ [] })) (omega arith)) tt
