-- Worlds that the scheduler goes on to are valid.
use Rattle.std.proofs.Common.{◌≡◌, ◌≢◌, ℕ, zero, suc, ◌+◌, ◌≤◌, ◌<◌, Bool, true, false, ◌&&◌, ◌||◌, List, [], ◌∷◌, map, length, Option, Some, None, slice_get, option_map, ℤ, pos, negsuc, int_le, int_lt, nat_eq, nat_lt, refl, ap, ◌∙◌, IfSome, sym, arith, if◌then◌else◌}
use mathlib.Core.Path.{subst}
use Rattle.std.specs.List.{AllByRecursion, list_any}
use Rattle.std.specs.Ordering.{int_eq}
use Rattle.std.proofs.lemmas.Bool.{eqb-true, eq-eqb, ne_eqb, eqb-false, leb-true, le-leb, ltb-true}
use Rattle.std.proofs.lemmas.Bool.Decides.{Decides-int_eq}
use Rattle.tp_meaning.specs.Subst.{IsSubst}
use Rattle.tp_meaning.specs.World.{World, Process, At, Inf, ProcStatus, Scheduled, Running, AwaitsMail, Ended, Parked, Slot, goes_before, Start, at_place, stamped, status_at, with_event, with_process}
use Rattle.tp_meaning.specs.Scheduler.{is_late, is_live, is_marked, first_marked, with_running, with_start, entered, by_calendar, choose}
use Rattle.tp_meaning.specs.Search.{Dead, Deadlock, Late, Success}
use Rattle.tp_meaning.specs.Turn.{one}
use Rattle.tp_meaning.specs.Valid.{Below, AreDistinct, SlotFits, IsFirst, InOrder, slots_of, due, EventFits, busy, waits_or_runs, is_running, is_at, ItemsFit, Valid, Follows, EachFollows}
use Rattle.tp_meaning.proofs.ValidWorlds.Places.{map-at_place, length-at_place, get-at_place, get-at_place-other, all-at_place, all-weaker, all-append}
use Rattle.tp_meaning.proofs.ValidWorlds.Keeps.{items-later, status-same, busy-same}

-- ---- order of whole numbers

pub int_le-trans : (a b c : ℤ) → int_le a b ≡ true → int_le b c ≡ true → int_le a c ≡ true
int_le-trans (pos a) (pos b) (pos c) h k = le-leb a c (let x = leb-true a b h in let y = leb-true b c k in omega arith)
int_le-trans (pos a) (pos b) (negsuc c) h k = k
int_le-trans (pos a) (negsuc b) c h k = absurd (cc)
int_le-trans (negsuc a) b (pos c) h k = refl
int_le-trans (negsuc a) (pos b) (negsuc c) h k = absurd (cc)
int_le-trans (negsuc a) (negsuc b) (negsuc c) h k = le-leb c a (let x = leb-true b a h in let y = leb-true c b k in omega arith)

pub int_le-refl : (a : ℤ) → int_le a a ≡ true
int_le-refl (pos a) = le-leb a a (omega arith)
int_le-refl (negsuc a) = le-leb a a (omega arith)

int_lt-le : (a b : ℤ) → int_lt a b ≡ true → int_le a b ≡ true
int_lt-le (pos a) (pos b) h = le-leb a b (let x = ltb-true a b h in omega arith)
int_lt-le (pos a) (negsuc b) h = absurd (cc)
int_lt-le (negsuc a) (pos b) h = refl
int_lt-le (negsuc a) (negsuc b) h = le-leb b a (let x = ltb-true b a h in omega arith)

before-le : (e f : Slot) → goes_before e f ≡ true → int_le e.time f.time ≡ true
before-le e f h = go (int_lt e.time f.time) (int_eq e.time f.time) refl refl h
  where
    go : (a b : Bool) → int_lt e.time f.time ≡ a → int_eq e.time f.time ≡ b → (a || (b && nat_lt e.number f.number)) ≡ true → int_le e.time f.time ≡ true
    go true b x y z = int_lt-le e.time f.time x
    go false true x y z = ap (λ t. int_le e.time t) (sym ((Decides-int_eq e.time f.time).0 y)) ∙ int_le-refl e.time
    go false false x y z = absurd (cc)

-- ---- one process runs

-- a list in which one element, which is known, is changed
pub all-at_known : {A : Type 0} (P : A → Type 0) (f : A → A) (n : ℕ) (xs : List A) → ((x : A) → slice_get xs n ≡ Some x → P x → P (f x)) → AllByRecursion P xs → AllByRecursion P (at_place n f xs)
all-at_known P f n [] h a = a
all-at_known P f zero (x ∷ xs) h a = (h x refl a.0, a.1)
all-at_known P f (suc n) (x ∷ xs) h a = (a.0, all-at_known P f n xs h a.1)

busy-one_more : (f : Process → Process) → ((q : Process) → (f q).status ≡ Running) → (n : ℕ) (ps : List Process) (s : ProcStatus) → waits_or_runs s ≡ 0 → (q : Process) → slice_get ps n ≡ Some q → q.status ≡ s → busy (at_place n f ps) ≡ busy ps + 1
busy-one_more f h n [] s w q e st = absurd (cc)
busy-one_more f h zero (x ∷ xs) s w q e st =
    let e' : waits_or_runs x.status ≡ 0 = ap (λ o. waits_or_runs (status_of o)) e ∙ ap waits_or_runs st ∙ w in
    let f' : waits_or_runs (f x).status ≡ 1 = ap waits_or_runs (h x) in
    omega arith
  where
    status_of : Option Process → ProcStatus
    status_of None = Ended
    status_of (Some r) = r.status
busy-one_more f h (suc n) (x ∷ xs) s w q e st = let r = busy-one_more f h n xs s w q e st in omega arith

abbrev run : Process → Process
run q = record q { status = Running }

-- what has to hold before a process runs: it is live, neither runs nor awaits mail, and has no entry
pub record Ready (w : World) (p : ℕ) (q : Process) : Type 0 where
  pub there : slice_get w.processes p ≡ Some q
  pub live : is_live q ≡ true
  pub quiet : waits_or_runs q.status ≡ 0
  pub none_here : slots_of p w.calendar ≡ 0
  pub others : (r : ℕ) → p ≢ r → slots_of r w.calendar ≡ due (status_at w.processes r)
  pub idle : (r : ℕ) → is_running (status_at w.processes r) ≡ false

late-run : (t : ℤ) (q : Process) → is_live q ≡ true → is_late t q ≡ false → is_late t (run q) ≡ false
late-run t q l h = go (is_live q) l (elim (q.limit) [ Inf ↦ false | At e ↦ int_lt e t ]) h
  where
    go : (b : Bool) → b ≡ true → (c : Bool) → (b && c) ≡ false → c ≡ false
    go true e c h = h
    go false e c h = absurd (cc)

pub known : (a b : Process) (o : Option Process) → o ≡ Some a → o ≡ Some b → a ≡ b
known a b o e f = ap (λ x. the x) (sym e ∙ f)
  where
    the : Option Process → Process
    the None = a
    the (Some x) = x

-- the rest of what holds of a world
pub record Others (w : World) : Type 0 where
  pub distinct : AreDistinct (map (λ q. q.name) w.processes)
  pub box_each : length w.boxes ≡ length w.processes
  pub entries : AllByRecursion (SlotFits (length w.processes) w.clock w.insertion) w.calendar
  pub in_order : InOrder w.calendar
  pub from_zero : int_le (pos 0) w.clock ≡ true
  pub none_late : AllByRecursion (λ q. is_late w.clock q ≡ false) w.processes
  pub events : AllByRecursion (EventFits (length w.processes) w.next w.clock) w.history
  pub todo : AllByRecursion (λ q. ItemsFit w.next w.stamp q.items) w.processes
  pub mail : AllByRecursion (AllByRecursion (Below w.next)) w.boxes
  pub bindings : AllByRecursion (λ e. (e.0 < w.next) × Below w.next e.1) w.subst
  pub is_subst : IsSubst w.subst
  pub insertions : w.insertion + busy w.processes + 1 ≤ w.stamp + 1

status_in : Option Process → ProcStatus
status_in o = elim o [ None ↦ Ended | Some q ↦ q.status ]

pub runs-valid : (w : World) (p : ℕ) (q : Process) → Ready w p q → Others w → Valid (with_running p w)
unfolding status_in
runs-valid w p q r x =
    let len : length (at_place p run w.processes) ≡ length w.processes = length-at_place run p w.processes in
    record {
      distinct = rw (map-at_place (λ q. q.name) run (λ q. refl) p w.processes) x.distinct;
      box_each = x.box_each ∙ sym len;
      entries = rw len x.entries;
      in_order = x.in_order;
      placed = λ s. placed s (nat_eq p s) refl;
      one_runs = λ s. runs s (nat_eq p s) refl;
      from_zero = x.from_zero;
      none_late = all-at_known _ run p w.processes (λ y e h. late-run w.clock y (ap is_live (known y q (slice_get w.processes p) e r.there) ∙ r.live) h) x.none_late;
      events = rw len x.events;
      todo = all-at_known _ run p w.processes (λ y e h. h) x.todo;
      mail = x.mail;
      bindings = x.bindings;
      is_subst = x.is_subst;
      insertions = let b = busy-one_more run (λ y. refl) p w.processes q.status r.quiet q r.there refl in let i : w.insertion + busy w.processes + 1 ≤ w.stamp + 1 = x.insertions in rw b (omega arith);
    }
  where
    here : status_at (at_place p run w.processes) p ≡ Running
    here = ap status_in (get-at_place run p w.processes ∙ ap (option_map run) r.there)

    there : (s : ℕ) → p ≢ s → status_at (at_place p run w.processes) s ≡ status_at w.processes s
    there s n = ap status_in (get-at_place-other run p w.processes s n)

    at : (s : ℕ) → nat_eq p s ≡ true → status_at (at_place p run w.processes) s ≡ Running
    at s e = ap (λ k. status_at (at_place p run w.processes) k) (sym (eqb-true p s e)) ∙ here

    placed : (s : ℕ) (b : Bool) → nat_eq p s ≡ b → slots_of s w.calendar ≡ due (status_at (at_place p run w.processes) s)
    placed s true e = ap (λ k. slots_of k w.calendar) (sym (eqb-true p s e)) ∙ r.none_here ∙ ap due (sym (at s e))
    placed s false e = r.others s (eqb-false p s e) ∙ ap due (sym (there s (eqb-false p s e)))

    runs : (s : ℕ) (b : Bool) → nat_eq p s ≡ b → is_running (status_at (at_place p run w.processes) s) ≡ nat_eq p s
    runs s true e = ap is_running (at s e) ∙ sym e
    runs s false e = ap is_running (there s (eqb-false p s e)) ∙ r.idle s ∙ sym e

-- ---- a marked process

record Marked (ps : List Process) (p : ℕ) : Type 0 where
  process : Process
  there : slice_get ps p ≡ Some process
  marked : is_marked process ≡ true

first_marked-is : (ps : List Process) → IfSome (first_marked ps) (Marked ps)
first_marked-is [] = tt
first_marked-is (x ∷ xs) = go (is_marked x) refl (first_marked xs) (first_marked-is xs)
  where
    go : (b : Bool) → is_marked x ≡ b → (o : Option ℕ) → IfSome o (Marked xs) → IfSome (if◌then◌else◌ {A = Option ℕ} b (Some 0) (elim o [ None ↦ None | Some k ↦ Some (suc k) ])) (Marked (x ∷ xs))
    go true m o h = record { process = x; there = refl; marked = m }
    go false m None h = tt
    go false m (Some k) h = record { process = h.process; there = h.there; marked = h.marked }

live_status : ProcStatus → Bool
live_status s = elim s [ Scheduled ↦ true | Running ↦ true | AwaitsMail ↦ true | Ended ↦ false | Parked m ↦ true ]

parked-live : (s : ProcStatus) → (elim s [ Scheduled ↦ false | Running ↦ false | AwaitsMail ↦ false | Ended ↦ false | Parked m ↦ m ]) ≡ true → (live_status s ≡ true) × (waits_or_runs s ≡ 0) × (due s ≡ 0)
unfolding live_status
parked-live Scheduled h = absurd (cc)
parked-live Running h = absurd (cc)
parked-live AwaitsMail h = absurd (cc)
parked-live Ended h = absurd (cc)
parked-live (Parked m) h = (refl, refl, refl)

marked-runs : (w : World) (p : ℕ) → Valid w → w.running ≡ None → Marked w.processes p → Follows w (with_running p (stamped w))
unfolding live_status status_in
marked-runs w p v idle m =
    let k = parked-live m.process.status m.marked in
    record {
      valid = runs-valid (stamped w) p m.process
          (record {
            there = m.there;
            live = k.0;
            quiet = k.1;
            none_here = v.placed p ∙ ap (λ o. due (status_in o)) m.there ∙ k.2;
            others = λ r n. v.placed r;
            idle = λ r. v.one_runs r ∙ ap (λ o. is_at o r) idle;
          })
          (record {
            distinct = v.distinct;
            box_each = v.box_each;
            entries = v.entries;
            in_order = v.in_order;
            from_zero = v.from_zero;
            none_late = v.none_late;
            events = v.events;
            todo = all-weaker _ (λ q. ItemsFit w.next (w.stamp + 1) q.items) (λ q h. items-later w.next w.stamp q.items h) w.processes v.todo;
            mail = v.mail;
            bindings = v.bindings;
            is_subst = v.is_subst;
            insertions = let i : w.insertion + busy w.processes ≤ w.stamp + 1 = v.insertions in omega arith;
          });
      stamp = refl;
      next = omega arith;
    }

-- ---- the first entry

none-any : {A : Type 0} (f : A → Bool) (xs : List A) → list_any f xs ≡ false → AllByRecursion (λ x. f x ≡ false) xs
none-any f [] h = tt
none-any f (x ∷ xs) h = go (f x) refl (none-any f xs) h
  where
    go : (b : Bool) → f x ≡ b → (list_any f xs ≡ false → AllByRecursion (λ x. f x ≡ false) xs) → (b || list_any f xs) ≡ false → (f x ≡ false) × AllByRecursion (λ x. f x ≡ false) xs
    go true e r h = absurd (cc)
    go false e r h = (e, r h)

there-is : {A : Type 0} (n : ℕ) (xs : List A) → n < length xs → (x : A) × (slice_get xs n ≡ Some x)
there-is n [] h = absurd (omega arith)
there-is zero (x ∷ xs) h = (x, refl)
there-is (suc n) (x ∷ xs) h = there-is n xs (omega arith)

due-one : (s : ProcStatus) (k : ℕ) → 1 + k ≡ due s → (live_status s ≡ true) × (waits_or_runs s ≡ 0) × (k ≡ 0)
unfolding live_status
due-one Scheduled k h = (refl, refl, omega arith)
due-one Running k h = absurd (omega arith)
due-one AwaitsMail k h = absurd (omega arith)
due-one Ended k h = absurd (omega arith)
due-one (Parked m) k h = absurd (omega arith)

-- the world at the time of an entry, which is out of the calendar
abbrev at_entry : World → Slot → List Slot → World
at_entry w e es = record (stamped w) { clock = e.time; calendar = es }

-- whether a process has started is no part of what holds
abbrev begun : Process → Process
begun q = record q { started = true }

begun-valid : (w : World) (p : ℕ) → p < length w.processes → Valid w → Valid (with_event p Start (with_process p (λ q. record q { started = true }) w))
begun-valid w p k v =
    let len : length (at_place p begun w.processes) ≡ length w.processes = length-at_place begun p w.processes in
    record {
      distinct = rw (map-at_place (λ q. q.name) begun (λ q. refl) p w.processes) v.distinct;
      box_each = v.box_each ∙ sym len;
      entries = rw len v.entries;
      in_order = v.in_order;
      placed = λ q. v.placed q ∙ ap due (sym (status-same begun (λ x. refl) p w.processes q));
      one_runs = λ q. ap is_running (status-same begun (λ x. refl) p w.processes q) ∙ v.one_runs q;
      from_zero = v.from_zero;
      none_late = all-at_place _ begun (λ q h. h) p w.processes v.none_late;
      events = rw len (all-append _ w.history (record { time = w.clock; process = p; kind = Start } ∷ []) v.events (record { known = k; fits = tt; past = int_le-refl w.clock }, tt));
      todo = all-at_place _ begun (λ q h. h) p w.processes v.todo;
      mail = v.mail;
      bindings = v.bindings;
      is_subst = v.is_subst;
      insertions = rw (busy-same begun (λ x. refl) p w.processes) v.insertions;
    }

starts-follow : (v w : World) (p : ℕ) (q : Process) (o : Option Process) → p < length w.processes → w.stamp ≡ v.stamp + 1 → v.next ≤ w.next → Ready w p q → Others w → Follows v (with_start p o (with_running p w))
starts-follow v w p q None k s n r x = record { valid = runs-valid w p q r x; stamp = s; next = n }
starts-follow v w p q (Some y) k s n r x = go y.started
  where
    go : (b : Bool) → Follows v (if b then with_running p w else with_event p Start (with_process p (λ q. record q { started = true }) (with_running p w)))
    go true = record { valid = runs-valid w p q r x; stamp = s; next = n }
    go false = record {
      valid = begun-valid (with_running p w) p (let len : length (at_place p run w.processes) ≡ length w.processes = length-at_place run p w.processes in omega (arith, len)) (runs-valid w p q r x);
      stamp = s;
      next = n;
    }

entered-follows : (w : World) (e : Slot) (es : List Slot) → Valid w → w.running ≡ None → w.calendar ≡ e ∷ es → list_any (is_late e.time) w.processes ≡ false → Follows w (entered w e es)
unfolding live_status status_in
entered-follows w e es v idle c late =
    let fits : AllByRecursion (SlotFits (length w.processes) w.clock w.insertion) (e ∷ es) = subst (AllByRecursion (SlotFits (length w.processes) w.clock w.insertion)) c v.entries in
    let order : InOrder (e ∷ es) = subst InOrder c v.in_order in
    let found = there-is e.process w.processes fits.0.0 in
    let due_here : 1 + slots_of e.process es ≡ due found.0.status =
    ap (λ b. (if b then 1 else 0) + slots_of e.process es) (sym (eq-eqb e.process e.process refl)) ∙ ap (slots_of e.process) (sym c) ∙ v.placed e.process ∙ ap (λ o. due (status_in o)) found.1 in
    let k = due-one found.0.status (slots_of e.process es) due_here in
    starts-follow w (at_entry w e es) e.process found.0 (slice_get w.processes e.process) fits.0.0 refl (omega arith)
    (record {
      there = found.1;
      live = k.0;
      quiet = k.1;
      none_here = k.2;
      others = λ r n. let h : 0 + slots_of r es ≡ due (status_at w.processes r) = ap (λ b. (if b then 1 else 0) + slots_of r es) (sym (ne_eqb r e.process (λ q. n (sym q)))) ∙ ap (slots_of r) (sym c) ∙ v.placed r in omega arith;
      idle = λ r. v.one_runs r ∙ ap (λ o. is_at o r) idle;
    })
    (record {
      distinct = v.distinct;
      box_each = v.box_each;
      entries = both es fits.1 order.0;
      in_order = order.1;
      from_zero = int_le-trans (pos 0) w.clock e.time v.from_zero fits.0.1;
      none_late = none-any (is_late e.time) w.processes late;
      events = all-weaker _ (EventFits (length w.processes) w.next e.time) (λ x h. record { known = h.known; fits = h.fits; past = int_le-trans x.time w.clock e.time h.past fits.0.1 }) w.history v.events;
      todo = all-weaker _ (λ q. ItemsFit w.next (w.stamp + 1) q.items) (λ q h. items-later w.next w.stamp q.items h) w.processes v.todo;
      mail = v.mail;
      bindings = v.bindings;
      is_subst = v.is_subst;
      insertions = let i : w.insertion + busy w.processes ≤ w.stamp + 1 = v.insertions in omega arith;
    })
  where
    both : (fs : List Slot) → AllByRecursion (SlotFits (length w.processes) w.clock w.insertion) fs → IsFirst e fs → AllByRecursion (SlotFits (length w.processes) e.time w.insertion) fs
    both [] a b = tt
    both (f ∷ fs) a b = ((a.0.0, before-le e f b.0, a.0.2), both fs a.1 b.1)

by_calendar-follows : (w : World) (es : List Slot) → Valid w → w.running ≡ None → w.calendar ≡ es → EachFollows w (by_calendar w es)
by_calendar-follows w [] v idle c = go (list_any is_live w.processes)
  where
    go : (b : Bool) → EachFollows w (if b then Dead Deadlock else Success)
    go true = tt
    go false = tt
by_calendar-follows w (e ∷ es) v idle c = go (list_any (is_late e.time) w.processes) refl
  where
    go : (b : Bool) → list_any (is_late e.time) w.processes ≡ b → EachFollows w (if b then Dead Late else one (entered w e es))
    go true l = tt
    go false l = (entered-follows w e es v idle c l, tt)

-- the law of the scheduler
pub choose-follows : (w : World) → Valid w → w.running ≡ None → EachFollows w (choose w)
choose-follows w v idle = go (first_marked w.processes) (first_marked-is w.processes)
  where
    go : (o : Option ℕ) → IfSome o (Marked w.processes) → EachFollows w (elim o [ None ↦ by_calendar w w.calendar | Some p ↦ one (with_running p (stamped w)) ])
    go None h = by_calendar-follows w w.calendar v idle refl
    go (Some p) h = (marked-runs w p v idle h, tt)
