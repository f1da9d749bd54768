-- Entries of the calendar: their order, and worlds that have one more.
use Rattle.std.proofs.Common.{◌≡◌, ◌≢◌, ◌⊎◌, inl, inr, ℕ, zero, suc, ◌+◌, ◌≤◌, ◌<◌, Bool, true, false, ◌&&◌, ◌||◌, nat_eq, nat_lt, List, [], ◌∷◌, length, Option, Some, None, slice_get, option_map, ℤ, pos, negsuc, int_le, int_lt, refl, ap, ◌∙◌, sym, arith, if◌then◌else◌}
use mathlib.Core.Path.{subst}
use Rattle.std.specs.List.{AllByRecursion}
use Rattle.std.specs.Ordering.{int_eq}
use Rattle.std.proofs.lemmas.Bool.{eqb-true, eq-eqb, ne_eqb, eqb-false, ltb-true, lt-ltb, ltb-false, leb-true, le-leb}
use Rattle.std.proofs.lemmas.Bool.Decides.{Decides-int_eq}
use Rattle.tp_meaning.specs.World.{World, Process, At, Inf, ProcStatus, Scheduled, Running, AwaitsMail, Ended, Parked, Slot, goes_before, put_slot, at_place, status_at, with_status, with_slot}
use Rattle.tp_meaning.specs.Scheduler.{is_late}
use Rattle.tp_meaning.specs.Valid.{SlotFits, IsFirst, InOrder, slots_of, due, busy, waits_or_runs, is_running, is_at, Valid}
use Rattle.tp_meaning.proofs.ValidWorlds.Places.{map-at_place, length-at_place, get-at_place, get-at_place-other, all-at_place, all-weaker}
use Rattle.tp_meaning.proofs.ValidWorlds.Acts.{all-at_known, known}
use Rattle.tp_meaning.proofs.Unification.Replaced.{or_true}

-- ---- whole numbers

int_lt-trans : (a b c : ℤ) → int_lt a b ≡ true → int_lt b c ≡ true → int_lt a c ≡ true
int_lt-trans (pos a) (pos b) (pos c) h k = lt-ltb a c (let x = ltb-true a b h in let y = ltb-true b c k in omega arith)
int_lt-trans (pos a) (pos b) (negsuc c) h k = k
int_lt-trans (pos a) (negsuc b) c h k = absurd (cc)
int_lt-trans (negsuc a) b (pos c) h k = refl
int_lt-trans (negsuc a) (pos b) (negsuc c) h k = absurd (cc)
int_lt-trans (negsuc a) (negsuc b) (negsuc c) h k = lt-ltb c a (let x = ltb-true b a h in let y = ltb-true c b k in omega arith)

-- a time that isn't below another
pub not-lt : (a b : ℤ) → int_lt a b ≡ false → int_le b a ≡ true
not-lt (pos a) (pos b) h = le-leb b a (ltb-false a b h)
not-lt (pos a) (negsuc b) h = refl
not-lt (negsuc a) (pos b) h = absurd (cc)
not-lt (negsuc a) (negsuc b) h = le-leb a b (ltb-false b a h)

-- and the other way round
pub le-not_lt : (a b : ℤ) → int_le b a ≡ true → int_lt a b ≡ false
le-not_lt a b h = go (int_lt a b) refl
  where
    clash : (x y : ℤ) → int_lt x y ≡ true → int_le y x ≡ true → ⊥
    clash (pos x) (pos y) l k = let i = ltb-true x y l in let j = leb-true y x k in omega arith
    clash (pos x) (negsuc y) l k = cc
    clash (negsuc x) (pos y) l k = cc
    clash (negsuc x) (negsuc y) l k = let i = ltb-true y x l in let j = leb-true x y k in omega arith

    go : (c : Bool) → int_lt a b ≡ c → c ≡ false
    go true e = absurd (clash a b e h)
    go false e = refl

-- ---- the order

abbrev Before : Slot → Slot → Type 0
Before e f = (int_lt e.time f.time ≡ true) ⊎ ((e.time ≡ f.time) × (e.number < f.number))

before-of : (e f : Slot) → goes_before e f ≡ true → Before e f
before-of e f h = go (int_lt e.time f.time) (int_eq e.time f.time) (nat_lt e.number f.number) refl refl refl h
  where
    go : (a b c : Bool) → int_lt e.time f.time ≡ a → int_eq e.time f.time ≡ b → nat_lt e.number f.number ≡ c → (a || (b && c)) ≡ true → Before e f
    go true b c x y z h = inl x
    go false true true x y z h = inr ((Decides-int_eq e.time f.time).0 y, ltb-true e.number f.number z)
    go false true false x y z h = absurd (cc)
    go false false c x y z h = absurd (cc)

of-before : (e f : Slot) → Before e f → goes_before e f ≡ true
of-before e f (inl h) = ap (λ a. a || (int_eq e.time f.time && nat_lt e.number f.number)) h
of-before e f (inr h) =
    ap (λ b. int_lt e.time f.time || (b && nat_lt e.number f.number)) ((Decides-int_eq e.time f.time).1 h.0)
    ∙ ap (λ b. int_lt e.time f.time || b) (lt-ltb e.number f.number h.1) ∙ or_true (int_lt e.time f.time)

before-trans : (a b c : Slot) → Before a b → Before b c → Before a c
before-trans a b c (inl h) (inl k) = inl (int_lt-trans a.time b.time c.time h k)
before-trans a b c (inl h) (inr k) = inl (subst (λ t. int_lt a.time t ≡ true) k.0 h)
before-trans a b c (inr h) (inl k) = inl (subst (λ t. int_lt t c.time ≡ true) (sym h.0) k)
before-trans a b c (inr h) (inr k) = inr (h.0 ∙ k.0, omega arith)

not-before : (e f : Slot) → goes_before e f ≡ false → f.number < e.number → Before f e
not-before e f h n = go (int_lt e.time f.time) (int_lt f.time e.time) refl refl
  where
    equal : int_lt e.time f.time ≡ false → int_lt f.time e.time ≡ false → int_eq f.time e.time ≡ true
    equal x y = rw (x, y) refl

    go : (a b : Bool) → int_lt e.time f.time ≡ a → int_lt f.time e.time ≡ b → Before f e
    go a true x y = inl y
    go true false x y = absurd (let z = sym h ∙ of-before e f (inl x) in cc)
    go false false x y = inr ((Decides-int_eq f.time e.time).0 (equal x y), n)

-- what holds of an entry and of a list holds of the list with the entry
pub all-put : (P : Slot → Type 0) (e : Slot) (fs : List Slot) → P e → AllByRecursion P fs → AllByRecursion P (put_slot e fs)
all-put P e [] h a = (h, tt)
all-put P e (f ∷ fs) h a = go (goes_before e f) (all-put P e fs h a.1)
  where
    go : (b : Bool) → AllByRecursion P (put_slot e fs) → AllByRecursion P (if b then e ∷ f ∷ fs else f ∷ put_slot e fs)
    go true r = (h, a)
    go false r = (a.0, r)

-- a list in order stays so with an entry of the greatest number
pub order-put : (e : Slot) (fs : List Slot) → AllByRecursion (λ f. f.number < e.number) fs → InOrder fs → InOrder (put_slot e fs)
order-put e [] n o = (tt, tt)
order-put e (f ∷ fs) n o = go (goes_before e f) refl (order-put e fs n.1 o.1)
  where
    first : Before e f → IsFirst e fs
    first b = all-weaker (λ g. goes_before f g ≡ true) (λ g. goes_before e g ≡ true) (λ g h. of-before e g (before-trans e f g b (before-of f g h))) fs o.0

    go : (b : Bool) → goes_before e f ≡ b → InOrder (put_slot e fs) → InOrder (if b then e ∷ f ∷ fs else f ∷ put_slot e fs)
    go true h r = ((h, first (before-of e f h)), o)
    go false h r = (all-put (λ g. goes_before f g ≡ true) e fs (of-before f e (not-before e f h n.0)) o.0, r)

-- the entries of a process, with one more
pub slots-put : (r : ℕ) (e : Slot) (fs : List Slot) → slots_of r (put_slot e fs) ≡ (if nat_eq r e.process then 1 else 0) + slots_of r fs
slots-put r e [] = refl
slots-put r e (f ∷ fs) = go (goes_before e f) (slots-put r e fs)
  where
    go : (b : Bool) → slots_of r (put_slot e fs) ≡ (if nat_eq r e.process then 1 else 0) + slots_of r fs → slots_of r (if b then e ∷ f ∷ fs else f ∷ put_slot e fs) ≡ (if nat_eq r e.process then 1 else 0) + ((if nat_eq r f.process then 1 else 0) + slots_of r fs)
    go true h = refl
    go false h = omega arith

-- ---- a process that is scheduled

status_in : Option Process → ProcStatus
status_in o = elim o [ None ↦ Ended | Some q ↦ q.status ]

busy-change : (p : ℕ) (s : ProcStatus) (ps : List Process) (q : Process) → slice_get ps p ≡ Some q → busy (at_place p (λ x. record x { status = s }) ps) + waits_or_runs q.status ≡ busy ps + waits_or_runs s
unfolding status_in
busy-change p s [] q e = absurd (cc)
busy-change zero s (x ∷ xs) q e = let h : waits_or_runs x.status ≡ waits_or_runs q.status = ap (λ o. waits_or_runs (status_in o)) e in omega arith
busy-change (suc p) s (x ∷ xs) q e = let h = busy-change p s xs q e in omega arith

late-live : (t : ℤ) (s : ProcStatus) (q : Process) → waits_or_runs q.status ≡ 1 → is_late t q ≡ false → is_late t (record q { status = s }) ≡ false
late-live t s q w h = go q.status w h
  where
    live : ProcStatus → Bool
    live k = elim k [ Scheduled ↦ true | Running ↦ true | AwaitsMail ↦ true | Ended ↦ false | Parked m ↦ true ]

    past : Bool
    past = elim (q.limit) [ Inf ↦ false | At e ↦ int_lt e t ]

    and_false : (b c : Bool) → c ≡ false → (b && c) ≡ false
    and_false true c e = e
    and_false false c e = refl

    go : (k : ProcStatus) → waits_or_runs k ≡ 1 → (live k && past) ≡ false → (live s && past) ≡ false
    go Scheduled x y = absurd (omega arith)
    go Running x y = and_false (live s) past y
    go AwaitsMail x y = and_false (live s) past y
    go Ended x y = absurd (omega arith)
    go (Parked m) x y = absurd (omega arith)

entries-later : (count n : ℕ) (clock : ℤ) (fs : List Slot) → AllByRecursion (SlotFits count clock n) fs → AllByRecursion (SlotFits count clock (n + 1)) fs
entries-later count n clock fs a = all-weaker (SlotFits count clock n) (SlotFits count clock (n + 1)) (λ f h. (h.0, h.1, omega arith)) fs a

-- a process that runs or awaits mail gets an entry
pub scheduled-valid : (w : World) (p : ℕ) (q : Process) (time : ℤ) (run : Option ℕ) → Valid w → slice_get w.processes p ≡ Some q → p < length w.processes → due q.status ≡ 0 → waits_or_runs q.status ≡ 1 → int_le w.clock time ≡ true → ((r : ℕ) → p ≢ r → is_at w.running r ≡ is_at run r) → is_at run p ≡ false → Valid (record (with_slot p time (with_status p Scheduled w)) { running = run })
unfolding status_in
scheduled-valid w p q time run v there below d0 w1 le others not_p =
    let f : Process → Process = λ x. record x { status = Scheduled } in
    let e : Slot = record { time = time; number = w.insertion; process = p } in
    let len : length (at_place p f w.processes) ≡ length w.processes = length-at_place f p w.processes in
    record {
      distinct = rw (map-at_place (λ q. q.name) f (λ q. refl) p w.processes) v.distinct;
      box_each = v.box_each ∙ sym len;
      entries = rw len (all-put (SlotFits (length w.processes) w.clock (w.insertion + 1)) e w.calendar (below, le, omega arith) (entries-later (length w.processes) w.insertion w.clock w.calendar v.entries));
      in_order = order-put e w.calendar (all-weaker (SlotFits (length w.processes) w.clock w.insertion) (λ f. f.number < w.insertion) (λ f h. h.2) w.calendar v.entries) v.in_order;
      placed = λ r. slots-put r e w.calendar ∙ placed r (nat_eq p r) refl;
      one_runs = λ r. runs r (nat_eq p r) refl;
      from_zero = v.from_zero;
      none_late = all-at_known _ f p w.processes (λ y i h. late-live w.clock Scheduled y (ap (λ z. waits_or_runs z.status) (known y q (slice_get w.processes p) i there) ∙ w1) h) v.none_late;
      events = rw len v.events;
      todo = all-at_place _ f (λ q h. h) p w.processes v.todo;
      mail = v.mail;
      bindings = v.bindings;
      is_subst = v.is_subst;
      insertions = let b = busy-change p Scheduled w.processes q there in let i : w.insertion + busy w.processes ≤ w.stamp + 1 = v.insertions in omega arith;
    }
  where
    ps : List Process
    ps = at_place p (λ x. record x { status = Scheduled }) w.processes

    at_p : status_at ps p ≡ Scheduled
    at_p = ap status_in (get-at_place (λ x. record x { status = Scheduled }) p w.processes ∙ ap (option_map (λ (x : Process). record x { status = Scheduled })) there)

    same : (r : ℕ) → p ≢ r → status_at ps r ≡ status_at w.processes r
    same r n = ap status_in (get-at_place-other (λ x. record x { status = Scheduled }) p w.processes r n)

    at_r : (r : ℕ) → nat_eq p r ≡ true → status_at ps r ≡ Scheduled
    at_r r h = ap (λ n. status_at ps n) (sym (eqb-true p r h)) ∙ at_p

    no_slot : (r : ℕ) → nat_eq p r ≡ true → slots_of r w.calendar ≡ 0
    no_slot r h = ap (λ n. slots_of n w.calendar) (sym (eqb-true p r h)) ∙ v.placed p ∙ ap (λ o. due (status_in o)) there ∙ d0

    placed : (r : ℕ) (b : Bool) → nat_eq p r ≡ b → (if nat_eq r p then 1 else 0) + slots_of r w.calendar ≡ due (status_at ps r)
    placed r true h =
        let z = no_slot r h in
        ap (λ b. (if b then 1 else 0) + slots_of r w.calendar) (eq-eqb r p (sym (eqb-true p r h))) ∙ (let one : 1 + slots_of r w.calendar ≡ 1 = omega arith in one) ∙ ap due (sym (at_r r h))
    placed r false h =
        ap (λ b. (if b then 1 else 0) + slots_of r w.calendar) (ne_eqb r p (λ e. eqb-false p r h (sym e))) ∙ (let none : 0 + slots_of r w.calendar ≡ slots_of r w.calendar = omega arith in none) ∙ v.placed r ∙ ap due (sym (same r (eqb-false p r h)))

    runs : (r : ℕ) (b : Bool) → nat_eq p r ≡ b → is_running (status_at ps r) ≡ is_at run r
    runs r true h = ap is_running (at_r r h) ∙ sym not_p ∙ ap (is_at run) (eqb-true p r h)
    runs r false h = ap is_running (same r (eqb-false p r h)) ∙ v.one_runs r ∙ others r (eqb-false p r h)
