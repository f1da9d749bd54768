-- Processes that run, go on later, start, end and are marked.
use Rattle.std.proofs.Common.{◌≡◌, ℕ, zero, suc, ◌<◌, true, List, [], ◌∷◌, map, length, Some, None, slice_get, slice_set, refl, ap, sym, subst, ◌∙◌}
use Rattle.std.proofs.lemmas.List.{length-set, map-append}
use Rattle.std.proofs.lemmas.Option.{same_Some, slice_get-map}
use Rattle.std.specs.List.{AllByRecursion}
use Rattle.std.specs.Option.{option_map}
use Rattle.tp_terms.specs.declared.ProcStatus.{ProcStatus}
use Rattle.tp_terms.specs.declared.ProcStatus.TheVariants.{Scheduled, Running, Parked, AwaitsMail, Ended}
use Rattle.tp_terms.specs.declared.world.Proc.{Proc}
use Rattle.tp_terms.specs.declared.world.Event.{Event}
use Rattle.tp_terms.specs.declared.world.EventKind.{EventKind}
use Rattle.tp_terms.specs.Term.{Name}
use Rattle.tp_meaning.specs.World as world
use Rattle.tp_meaning.specs.World.{at_place, with_status, with_process}
use Rattle.tp_meaning.specs.Scheduler as scheduler
use Rattle.tp_meaning.proofs.ValidWorlds.Places.{all-append, map-set, at_place-same, at_place-both, get-at_place}
use Rattle.tp_state.specs.Plain.{Plain, items_of, process_of, event_of, kind_of, world_of}
use Rattle.tp_terms.specs.Events.{KindStands, EventStands}
use Rattle.tp_state.specs.Stands.{ProcStands, PlainStands}
use Rattle.tp_state.specs.Acts.{noted, ran, left, begun, mark, mark_others}

-- ---- lists with one element replaced

pub all-get : {A : Type 0} (P : A → Type 0) (xs : List A) (n : ℕ) (x : A) → slice_get xs n ≡ Some x → AllByRecursion P xs → P x
all-get P [] n x e h = absurd (cc)
all-get P (y ∷ ys) zero x e h = subst P (same_Some y x e) h.0
all-get P (y ∷ ys) (suc n) x e h = all-get P ys n x e h.1

pub all-set : {A : Type 0} (P : A → Type 0) (xs : List A) (n : ℕ) (y : A) → P y → AllByRecursion P xs → AllByRecursion P (slice_set xs n y)
all-set P [] n y p h = tt
all-set P (x ∷ xs) zero y p h = (p, h.1)
all-set P (x ∷ xs) (suc n) y p h = (h.0, all-set P xs n y p h.1)

events-same : (names n a b : ℕ) (es : List Event) → a ≡ b → AllByRecursion (EventStands names n a) es → AllByRecursion (EventStands names n b) es
events-same names n a b es e h = subst (λ k. AllByRecursion (EventStands names n k) es) e h

-- contents with other processes, each of whose names and places stand
pub procs-stand : (names : List Name) (p : Plain) (qs : List Proc) → PlainStands names p → length qs ≡ length p.procs → AllByRecursion (ProcStands (length names) (length p.frames)) qs → PlainStands names (record p { procs = qs })
procs-stand names p qs s e h = record {
  store = s.store;
  atoms = s.atoms;
  lists = s.lists;
  items = s.items;
  procs = h;
  boxes = s.boxes;
  events = events-same (length names) (length p.store.cells) (length p.procs) (length qs) p.events (sym e) s.events;
}

-- ---- a process runs

pub ran-stands : (names : List Name) (p : Plain) (pid : ℕ) (q : Proc) → PlainStands names p → slice_get p.procs pid ≡ Some q → PlainStands names (ran pid q p)
ran-stands names p pid q s e =
    let h = all-get (ProcStands (length names) (length p.frames)) p.procs pid q e s.procs in
    let y : Proc = record q { status = Running } in
    let more = procs-stand names p (slice_set p.procs pid y) s (length-set p.procs pid y) (all-set (ProcStands (length names) (length p.frames)) p.procs pid y (record { name = h.name; items = h.items }) s.procs) in
    record { store = more.store; atoms = more.atoms; lists = more.lists; items = h.items; procs = more.procs; boxes = more.boxes; events = more.events }

row-at : (names : List Name) (p : Plain) (pid : ℕ) (q : Proc) → slice_get p.procs pid ≡ Some q → slice_get (map (process_of names p) p.procs) pid ≡ Some (process_of names p q)
row-at names p pid q e = slice_get-map (process_of names p) p.procs pid ∙ ap (option_map (process_of names p)) e

pub ran-world : (names : List Name) (p : Plain) (pid n : ℕ) (q : Proc) → p.running ≡ None → slice_get p.procs pid ≡ Some q → world_of names (ran pid q p) n ≡ scheduler.with_running pid (world_of names p n)
ran-world names p pid n q idle e =
    ap (λ ps. record (world_of names p n) { running = Some pid; processes = ps }) (
    ap (at_place pid (λ (x : world.Process). record x { items = items_of names p q.items })) set
    ∙ at_place-same (λ (x : world.Process). record x { items = items_of names p q.items }) pid (at_place pid runs rows) (runs (process_of names p q)) here refl
    ∙ ap (λ o. at_place pid (λ (x : world.Process). record x { status = Running }) (Rattle.tp_state.specs.Plain.with_running o (items_of names p p.items) rows)) (sym idle)
    )
  where
    rows : List world.Process
    rows = map (process_of names p) p.procs

    runs : world.Process → world.Process
    runs = λ x. record x { status = Running }

    set : map (process_of names p) (slice_set p.procs pid (record q { status = Running })) ≡ at_place pid (λ (x : world.Process). record x { status = Running }) (map (process_of names p) p.procs)
    set = map-set (process_of names p) (λ (x : world.Process). record x { status = Running }) pid p.procs q (record q { status = Running }) e refl

    here : slice_get (at_place pid (λ (x : world.Process). record x { status = Running }) (map (process_of names p) p.procs)) pid ≡ Some (record (process_of names p q) { status = Running })
    here = get-at_place (λ (x : world.Process). record x { status = Running }) pid (map (process_of names p) p.procs) ∙ ap (option_map (λ (x : world.Process). record x { status = Running })) (row-at names p pid q e)

-- ---- the running process goes on later

pub left-stands : (names : List Name) (p : Plain) (pid : ℕ) (q : Proc) (t : ProcStatus) → PlainStands names p → slice_get p.procs pid ≡ Some q → PlainStands names (left pid q t p)
left-stands names p pid q t s e =
    let h = all-get (ProcStands (length names) (length p.frames)) p.procs pid q e s.procs in
    let y : Proc = record q { status = t; items = p.items } in
    let more = procs-stand names p (slice_set p.procs pid y) s (length-set p.procs pid y) (all-set (ProcStands (length names) (length p.frames)) p.procs pid y (record { name = h.name; items = s.items }) s.procs) in
    record { store = more.store; atoms = more.atoms; lists = more.lists; items = tt; procs = more.procs; boxes = more.boxes; events = more.events }

pub left-world : (names : List Name) (p : Plain) (pid n : ℕ) (q : Proc) (t : ProcStatus) → p.running ≡ Some pid → slice_get p.procs pid ≡ Some q → world_of names (left pid q t p) n ≡ record (with_status pid t (world_of names p n)) { running = None }
left-world names p pid n q t runs e =
    let is = items_of names p p.items in
    let rows = map (process_of names p) p.procs in
    ap (λ ps. record (world_of names p n) { running = None; processes = ps }) (
    map-set (process_of names p) (λ (x : world.Process). record x { status = t; items = is }) pid p.procs q (record q { status = t; items = p.items }) e refl
    ∙ sym (at_place-both (λ (x : world.Process). record x { status = t }) (λ (x : world.Process). record x { items = is }) (λ (x : world.Process). record x { status = t; items = is }) (λ x. refl) pid rows)
    ∙ ap (λ o. at_place pid (λ (x : world.Process). record x { status = t }) (Rattle.tp_state.specs.Plain.with_running o is rows)) (sym runs)
    )

-- ---- events

pub noted-stands : (names : List Name) (p : Plain) (pid : ℕ) (k : EventKind) → PlainStands names p → pid < length p.procs → KindStands (length names) (length p.store.cells) (length p.procs) k → PlainStands names (noted pid k p)
noted-stands names p pid k s lt h = record {
  store = s.store;
  atoms = s.atoms;
  lists = s.lists;
  items = s.items;
  procs = s.procs;
  boxes = s.boxes;
  events = all-append (EventStands (length names) (length p.store.cells) (length p.procs)) p.events (record { time = p.clock; pid = pid; kind = k } ∷ []) s.events (record { process = lt; kind = h }, tt);
}

pub noted-world : (names : List Name) (p : Plain) (pid n : ℕ) (k : EventKind) → world_of names (noted pid k p) n ≡ world.with_event pid (kind_of names p.store k) (world_of names p n)
noted-world names p pid n k = ap (λ es. record (world_of names p n) { history = es }) (map-append (event_of names p.store) p.events (record { time = p.clock; pid = pid; kind = k } ∷ []))

-- ---- a process has started

pub begun-stands : (names : List Name) (p : Plain) (pid : ℕ) (q : Proc) → PlainStands names p → slice_get p.procs pid ≡ Some q → PlainStands names (begun pid q p)
begun-stands names p pid q s e =
    let h = all-get (ProcStands (length names) (length p.frames)) p.procs pid q e s.procs in
    let y : Proc = record q { started = true } in
    procs-stand names p (slice_set p.procs pid y) s (length-set p.procs pid y) (all-set (ProcStands (length names) (length p.frames)) p.procs pid y (record { name = h.name; items = h.items }) s.procs)

pub begun-world : (names : List Name) (p : Plain) (pid n : ℕ) (q : Proc) → p.running ≡ Some pid → slice_get p.procs pid ≡ Some q → world_of names (begun pid q p) n ≡ with_process pid (λ (x : world.Process). record x { started = true }) (world_of names p n)
begun-world names p pid n q runs e =
    let is = items_of names p p.items in
    let rows = map (process_of names p) p.procs in
    let starts : world.Process → world.Process = λ x. record x { started = true } in
    let has : world.Process → world.Process = λ x. record x { items = is } in
    let both : world.Process → world.Process = λ x. record x { started = true; items = is } in
    ap (λ ps. record (world_of names p n) { processes = ps }) (
    ap (Rattle.tp_state.specs.Plain.with_running p.running is) (map-set (process_of names p) starts pid p.procs q (record q { started = true }) e refl)
    ∙ ap (λ o. Rattle.tp_state.specs.Plain.with_running o is (at_place pid starts rows)) runs
    ∙ at_place-both has starts both (λ x. refl) pid rows
    ∙ sym (at_place-both starts has both (λ x. refl) pid rows)
    ∙ ap (λ o. at_place pid starts (Rattle.tp_state.specs.Plain.with_running o is rows)) (sym runs)
    )

-- ---- processes are marked

mark-row : (names : List Name) (p : Plain) (q : Proc) → process_of names p (mark q) ≡ world.mark (process_of names p q)
mark-row names p q = go q.status
  where
    go : (t : ProcStatus) → process_of names p (record q { status = Rattle.tp_state.specs.Acts.marked_status t }) ≡ world.mark (process_of names p (record q { status = t }))
    go Scheduled = refl
    go Running = refl
    go AwaitsMail = refl
    go Ended = refl
    go (Parked m) = refl

mark-rows : (names : List Name) (p : Plain) (qs : List Proc) → map (process_of names p) (map mark qs) ≡ map world.mark (map (process_of names p) qs)
mark-rows names p [] = refl
mark-rows names p (q ∷ qs) = ap (λ x. x ∷ map (process_of names p) (map mark qs)) (mark-row names p q) ∙ ap (λ xs. world.mark (process_of names p q) ∷ xs) (mark-rows names p qs)

others-rows : (names : List Name) (p : Plain) (n : ℕ) (qs : List Proc) → map (process_of names p) (mark_others n qs) ≡ world.mark_others n (map (process_of names p) qs)
others-rows names p n [] = refl
others-rows names p zero (q ∷ qs) = ap (λ xs. process_of names p q ∷ xs) (mark-rows names p qs)
others-rows names p (suc n) (q ∷ qs) = ap (λ x. x ∷ map (process_of names p) (mark_others n qs)) (mark-row names p q) ∙ ap (λ xs. world.mark (process_of names p q) ∷ xs) (others-rows names p n qs)

pub marked-world : (names : List Name) (p : Plain) (pid n : ℕ) → p.running ≡ None → world_of names (record p { procs = mark_others pid p.procs }) n ≡ record (world_of names p n) { processes = world.mark_others pid (world_of names p n).processes }
marked-world names p pid n idle =
    let is = items_of names p p.items in
    ap (λ ps. record (world_of names p n) { processes = ps }) (
    ap (Rattle.tp_state.specs.Plain.with_running p.running is) (others-rows names p pid p.procs)
    ∙ ap (λ o. Rattle.tp_state.specs.Plain.with_running o is (world.mark_others pid (map (process_of names p) p.procs))) idle
    ∙ ap (λ o. world.mark_others pid (Rattle.tp_state.specs.Plain.with_running o is (map (process_of names p) p.procs))) (sym idle)
    )

length-others : (n : ℕ) (qs : List Proc) → length (mark_others n qs) ≡ length qs
length-others n [] = refl
length-others zero (q ∷ qs) = ap suc (all qs)
  where
    all : (xs : List Proc) → length (map mark xs) ≡ length xs
    all [] = refl
    all (x ∷ xs) = ap suc (all xs)
length-others (suc n) (q ∷ qs) = ap suc (length-others n qs)

marked-fit : (a b n : ℕ) (qs : List Proc) → AllByRecursion (ProcStands a b) qs → AllByRecursion (ProcStands a b) (mark_others n qs)
marked-fit a b n [] h = tt
marked-fit a b zero (q ∷ qs) h = (h.0, all qs h.1)
  where
    all : (xs : List Proc) → AllByRecursion (ProcStands a b) xs → AllByRecursion (ProcStands a b) (map mark xs)
    all [] k = tt
    all (x ∷ xs) k = (record { name = k.0.name; items = k.0.items }, all xs k.1)
marked-fit a b (suc n) (q ∷ qs) h = (record { name = h.0.name; items = h.0.items }, marked-fit a b n qs h.1)

pub marked-stands : (names : List Name) (p : Plain) (pid : ℕ) → PlainStands names p → PlainStands names (record p { procs = mark_others pid p.procs })
marked-stands names p pid s = procs-stand names p (mark_others pid p.procs) s (length-others pid p.procs) (marked-fit (length names) (length p.frames) pid p.procs s.procs)
