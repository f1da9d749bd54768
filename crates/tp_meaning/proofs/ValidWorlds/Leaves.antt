-- Valid worlds with an event, an entry, a mark or a status changed.
use Rattle.std.proofs.Common.{◌≡◌, ◌≢◌, ℕ, zero, suc, ◌+◌, ◌≤◌, ◌<◌, Bool, true, false, ◌&&◌, nat_eq, List, [], ◌∷◌, map, length, Option, Some, None, slice_get, option_map, ℤ, int_lt, refl, ap, ◌∙◌, sym, arith}
use Rattle.std.specs.List.{AllByRecursion}
use Rattle.std.proofs.lemmas.Bool.{eqb-true, eq-eqb, eqb-false}
use Rattle.tp_meaning.specs.World.{World, Process, Limit, At, Inf, ProcStatus, Scheduled, Running, AwaitsMail, Ended, Parked, Slot, goes_before, put_slot, Event, EventKind, at_place, status_at, with_event, with_status, with_slot, mark, mark_others, let_go}
use Rattle.tp_meaning.specs.Scheduler.{is_late}
use Rattle.tp_meaning.specs.Valid.{slots_of, due, KindFits, busy, waits_or_runs, is_running, is_at, ItemsFit, Valid}
use Rattle.tp_meaning.proofs.ValidWorlds.Places.{map-at_place, length-at_place, get-at_place, get-at_place-other, all-at_place, all-append}
use Rattle.tp_meaning.proofs.ValidWorlds.Acts.{int_le-refl, all-at_known, known}

-- ---- an event

pub event-valid : (w : World) (p : ℕ) (k : EventKind) → Valid w → p < length w.processes → KindFits (length w.processes) w.next k → Valid (with_event p k w)
event-valid w p k v l f = record {
  distinct = v.distinct;
  box_each = v.box_each;
  entries = v.entries;
  in_order = v.in_order;
  placed = v.placed;
  one_runs = v.one_runs;
  from_zero = v.from_zero;
  none_late = v.none_late;
  events = all-append _ w.history (record { time = w.clock; process = p; kind = k } ∷ []) v.events (record { known = l; fits = f; past = int_le-refl w.clock }, tt);
  todo = v.todo;
  mail = v.mail;
  bindings = v.bindings;
  is_subst = v.is_subst;
  insertions = v.insertions;
}

-- ---- marks

-- a mark leaves all but whether a parked process is marked
record SameButMark (a b : Process) : Type 0 where
  name : a.name ≡ b.name
  items : a.items ≡ b.items
  due : due a.status ≡ due b.status
  runs : is_running a.status ≡ is_running b.status
  busy : waits_or_runs a.status ≡ waits_or_runs b.status
  late : (t : ℤ) → is_late t a ≡ is_late t b

mark-same : (q : Process) → SameButMark (mark q) q
mark-same q = go q.name q.limit q.started q.status q.items
  where
    go : (n : List ℕ) (l : Limit) (b : Bool) (s : ProcStatus) (is : List Rattle.tp_meaning.specs.World.Item) → SameButMark (mark (record { name = n; limit = l; started = b; status = s; items = is })) (record { name = n; limit = l; started = b; status = s; items = is })
    go n l b Scheduled is = record { name = refl; items = refl; due = refl; runs = refl; busy = refl; late = λ t. refl }
    go n l b Running is = record { name = refl; items = refl; due = refl; runs = refl; busy = refl; late = λ t. refl }
    go n l b AwaitsMail is = record { name = refl; items = refl; due = refl; runs = refl; busy = refl; late = λ t. refl }
    go n l b Ended is = record { name = refl; items = refl; due = refl; runs = refl; busy = refl; late = λ t. refl }
    go n l b (Parked m) is = record { name = refl; items = refl; due = refl; runs = refl; busy = refl; late = λ t. refl }

map-mark : {B : Type 0} (g : Process → B) → ((q : Process) → g (mark q) ≡ g q) → (ps : List Process) → map g (map mark ps) ≡ map g ps
map-mark g h [] = refl
map-mark g h (x ∷ xs) = ap (λ y. y ∷ map g (map mark xs)) (h x) ∙ ap (λ ys. g x ∷ ys) (map-mark g h xs)

map-marks : {B : Type 0} (g : Process → B) → ((q : Process) → g (mark q) ≡ g q) → (n : ℕ) (ps : List Process) → map g (mark_others n ps) ≡ map g ps
map-marks g h n [] = refl
map-marks g h zero (x ∷ xs) = ap (λ ys. g x ∷ ys) (map-mark g h xs)
map-marks g h (suc n) (x ∷ xs) = ap (λ y. y ∷ map g (mark_others n xs)) (h x) ∙ ap (λ ys. g x ∷ ys) (map-marks g h n xs)

-- what a function of statuses, and the count of the busy, see of a list is a map of it
status-by : {B : Type 0} (f : ProcStatus → B) (ps qs : List Process) → map (λ q. f q.status) ps ≡ map (λ q. f q.status) qs → (p : ℕ) → f (status_at ps p) ≡ f (status_at qs p)
status-by {B = B} f ps qs e p = from ps p ∙ ap (λ o. option_else o) (ap (λ xs. slice_get xs p) e) ∙ sym (from qs p)
  where
    option_else : Option B → B
    option_else o = elim o [ None ↦ f Ended | Some b ↦ b ]

    from : (xs : List Process) (p : ℕ) → f (status_at xs p) ≡ option_else (slice_get (map (λ q. f q.status) xs) p)
    from [] p = refl
    from (x ∷ xs) zero = refl
    from (x ∷ xs) (suc p) = from xs p

abbrev total : List ℕ → ℕ
total [] = 0
total (x ∷ xs) = x + total xs

busy-total : (ps : List Process) → busy ps ≡ total (map (λ q. waits_or_runs q.status) ps)
busy-total [] = refl
busy-total (x ∷ xs) = ap (λ k. waits_or_runs x.status + k) (busy-total xs)

length-map : {A B : Type 0} (f : A → B) (xs : List A) → length (map f xs) ≡ length xs
length-map f [] = refl
length-map f (x ∷ xs) = ap suc (length-map f xs)

all-mark : (P : Process → Type 0) → ((q : Process) → P q → P (mark q)) → (ps : List Process) → AllByRecursion P ps → AllByRecursion P (map mark ps)
all-mark P h [] a = a
all-mark P h (x ∷ xs) a = (h x a.0, all-mark P h xs a.1)

all-marks : (P : Process → Type 0) → ((q : Process) → P q → P (mark q)) → (n : ℕ) (ps : List Process) → AllByRecursion P ps → AllByRecursion P (mark_others n ps)
all-marks P h n [] a = a
all-marks P h zero (x ∷ xs) a = (a.0, all-mark P h xs a.1)
all-marks P h (suc n) (x ∷ xs) a = (h x a.0, all-marks P h n xs a.1)

length-marks : (n : ℕ) (ps : List Process) → length (mark_others n ps) ≡ length ps
length-marks n ps = sym (length-map (λ q. q.name) (mark_others n ps)) ∙ ap length (map-marks (λ q. q.name) (λ q. (mark-same q).name) n ps) ∙ length-map (λ q. q.name) ps

pub marks-valid : (w : World) (p : ℕ) → Valid w → Valid (record w { processes = mark_others p w.processes })
marks-valid w p v =
    let len : length (mark_others p w.processes) ≡ length w.processes = length-marks p w.processes in
    record {
      distinct = rw (map-marks (λ q. q.name) (λ q. (mark-same q).name) p w.processes) v.distinct;
      box_each = v.box_each ∙ sym len;
      entries = rw len v.entries;
      in_order = v.in_order;
      placed = λ r. v.placed r ∙ sym (status-by due (mark_others p w.processes) w.processes (map-marks (λ q. due q.status) (λ q. (mark-same q).due) p w.processes) r);
      one_runs = λ r. status-by is_running (mark_others p w.processes) w.processes (map-marks (λ q. is_running q.status) (λ q. (mark-same q).runs) p w.processes) r ∙ v.one_runs r;
      from_zero = v.from_zero;
      none_late = all-marks _ (λ q h. (mark-same q).late w.clock ∙ h) p w.processes v.none_late;
      events = rw len v.events;
      todo = all-marks (λ q. ItemsFit w.next w.stamp q.items) (λ q h. rw ((mark-same q).items) h) p w.processes v.todo;
      mail = v.mail;
      bindings = v.bindings;
      is_subst = v.is_subst;
      insertions =
          let b : busy (mark_others p w.processes) ≡ busy w.processes = busy-total (mark_others p w.processes) ∙ ap total (map-marks (λ q. waits_or_runs q.status) (λ q. (mark-same q).busy) p w.processes) ∙ sym (busy-total w.processes) in
          rw b v.insertions;
    }

-- ---- the running process

-- the process that runs is in the list
pub record Runs (w : World) (p : ℕ) : Type 0 where
  pub process : Process
  pub there : slice_get w.processes p ≡ Some process
  pub status : process.status ≡ Running
  pub below : p < length w.processes

running-is : (s : ProcStatus) → is_running s ≡ true → s ≡ Running
running-is Scheduled h = absurd (cc)
running-is Running h = refl
running-is AwaitsMail h = absurd (cc)
running-is Ended h = absurd (cc)
running-is (Parked m) h = absurd (cc)

there-below : {A : Type 0} (xs : List A) (p : ℕ) (x : A) → slice_get xs p ≡ Some x → p < length xs
there-below [] p x e = absurd (cc)
there-below (y ∷ ys) zero x e = omega arith
there-below (y ∷ ys) (suc p) x e = let h = there-below ys p x e in omega arith

status_in : Option Process → ProcStatus
status_in o = elim o [ None ↦ Ended | Some q ↦ q.status ]

pub runs-there : (w : World) (p : ℕ) → Valid w → w.running ≡ Some p → Runs w p
unfolding status_in
runs-there w p v r = go (slice_get w.processes p) refl (v.one_runs p ∙ ap (λ o. is_at o p) r ∙ eq-eqb p p refl)
  where
    go : (o : Option Process) → slice_get w.processes p ≡ o → is_running (status_in o) ≡ true → Runs w p
    go None e h = absurd (cc)
    go (Some q) e h = record { process = q; there = e; status = running-is q.status h; below = there-below w.processes p q e }

-- a running process gets a status, and none runs then
abbrev pub leave : ℕ → ProcStatus → World → World
leave p s w = record (with_status p s w) { running = None }

late-other : (t : ℤ) (s : ProcStatus) (q : Process) → q.status ≡ Running → is_late t q ≡ false → is_late t (record q { status = s }) ≡ false
late-other t s q r h = go (elim (q.limit) [ Inf ↦ false | At e ↦ int_lt e t ]) (ap (λ k. live k && elim (q.limit) [ Inf ↦ false | At e ↦ int_lt e t ]) (sym r) ∙ h)
  where
    live : ProcStatus → Bool
    live k = elim k [ Scheduled ↦ true | Running ↦ true | AwaitsMail ↦ true | Ended ↦ false | Parked m ↦ true ]

    go : (c : Bool) → (true && c) ≡ false → (live s && c) ≡ false
    go true h = absurd (cc)
    go false h = and_false (live s)
      where
        and_false : (b : Bool) → (b && false) ≡ false
        and_false true = refl
        and_false false = refl

busy-less : (p : ℕ) (s : ProcStatus) (ps : List Process) (q : Process) → slice_get ps p ≡ Some q → q.status ≡ Running → busy (at_place p (λ x. record x { status = s }) ps) + 1 ≡ busy ps + waits_or_runs s
busy-less p s [] q e r = absurd (cc)
busy-less zero s (x ∷ xs) q e r =
    let h : waits_or_runs x.status ≡ 1 = ap (λ o. waits_or_runs (status_in' o)) e ∙ ap waits_or_runs r in omega arith
  where
    status_in' : Option Process → ProcStatus
    status_in' o = elim o [ None ↦ Ended | Some q ↦ q.status ]
busy-less (suc p) s (x ∷ xs) q e r = let h = busy-less p s xs q e r in omega arith

pub leave-valid : (w : World) (p : ℕ) (s : ProcStatus) → Valid w → w.running ≡ Some p → due s ≡ 0 → is_running s ≡ false → waits_or_runs s ≤ 1 → Valid (leave p s w)
unfolding status_in
leave-valid w p s v run d0 nr wr =
    let k = runs-there w p v run in
    let f : Process → Process = λ q. record q { status = s } in
    let len : length (at_place p f w.processes) ≡ length w.processes = length-at_place f p w.processes in
    record {
      distinct = rw (map-at_place (λ q. q.name) f (λ q. refl) p w.processes) v.distinct;
      box_each = v.box_each ∙ sym len;
      entries = rw len v.entries;
      in_order = v.in_order;
      placed = λ r. placed k r (nat_eq p r) refl;
      one_runs = λ r. none k r (nat_eq p r) refl;
      from_zero = v.from_zero;
      none_late = all-at_known _ f p w.processes (λ y e h. late-other w.clock s y (ap (λ z. z.status) (known y k.process (slice_get w.processes p) e k.there) ∙ k.status) h) v.none_late;
      events = rw len v.events;
      todo = all-at_place _ f (λ q h. h) p w.processes v.todo;
      mail = v.mail;
      bindings = v.bindings;
      is_subst = v.is_subst;
      insertions = let b = busy-less p s w.processes k.process k.there k.status in let i : w.insertion + busy w.processes ≤ w.stamp + 1 = v.insertions in omega arith;
    }
  where
    at_p : (k : Runs w p) → status_at (at_place p (λ q. record q { status = s }) w.processes) p ≡ s
    at_p k = ap status_in (get-at_place (λ q. record q { status = s }) p w.processes ∙ ap (option_map (λ (q : Process). record q { status = s })) k.there)

    same : (r : ℕ) → p ≢ r → status_at (at_place p (λ q. record q { status = s }) w.processes) r ≡ status_at w.processes r
    same r n = ap status_in (get-at_place-other (λ q. record q { status = s }) p w.processes r n)

    at_r : (k : Runs w p) (r : ℕ) → nat_eq p r ≡ true → status_at (at_place p (λ q. record q { status = s }) w.processes) r ≡ s
    at_r k r e = ap (λ n. status_at (at_place p (λ q. record q { status = s }) w.processes) n) (sym (eqb-true p r e)) ∙ at_p k

    was : (k : Runs w p) → status_at w.processes p ≡ Running
    was k = ap status_in k.there ∙ k.status

    placed : (k : Runs w p) (r : ℕ) (b : Bool) → nat_eq p r ≡ b → slots_of r w.calendar ≡ due (status_at (at_place p (λ q. record q { status = s }) w.processes) r)
    placed k r true e = ap (λ n. slots_of n w.calendar) (sym (eqb-true p r e)) ∙ v.placed p ∙ ap due (was k) ∙ sym d0 ∙ ap due (sym (at_r k r e))
    placed k r false e = v.placed r ∙ ap due (sym (same r (eqb-false p r e)))

    none : (k : Runs w p) (r : ℕ) (b : Bool) → nat_eq p r ≡ b → is_running (status_at (at_place p (λ q. record q { status = s }) w.processes) r) ≡ false
    none k r true e = ap is_running (at_r k r e) ∙ nr
    none k r false e = ap is_running (same r (eqb-false p r e)) ∙ v.one_runs r ∙ ap (λ o. is_at o r) run ∙ e

pub let_go-valid : (w : World) (p : ℕ) (s : ProcStatus) → Valid w → w.running ≡ Some p → due s ≡ 0 → is_running s ≡ false → waits_or_runs s ≤ 1 → Valid (let_go p (with_status p s w))
let_go-valid w p s v run d0 nr wr = marks-valid (leave p s w) p (leave-valid w p s v run d0 nr wr)
