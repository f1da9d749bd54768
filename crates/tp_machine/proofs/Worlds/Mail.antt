-- Messages that come to boxes and are taken out of them, and processes that are roused.
use Rattle.std.proofs.Common.{◌≡◌, false, if◌then◌else◌, ℕ, zero, suc, ◌<◌, List, [], ◌∷◌, ◌++◌, map, length, take, drop, remove, Option, Some, None, slice_get, refl, ap, sym, ◌∙◌}
use Rattle.std.proofs.lemmas.List.{map-append}
use Rattle.std.specs.List.{AllByRecursion}
use Rattle.std.specs.Option.{option_map}
use Rattle.std.proofs.lemmas.Option.{slice_get-map}
use Rattle.tp_terms.specs.declared.ProcStatus.{ProcStatus}
use Rattle.tp_terms.specs.declared.ProcStatus.TheVariants.{Scheduled, Running, AwaitsMail, Ended, Parked}
use Rattle.tp_terms.specs.declared.world.EventKind.TheVariants as event
use Rattle.tp_terms.specs.declared.cells.Ref.{Ref}
use Rattle.tp_terms.specs.declared.world.Proc.{Proc}
use Rattle.tp_terms.specs.Term.{Name, Term}
use Rattle.tp_mail.specs.Mail.{at_box}
use Rattle.tp_meaning.specs.Process as meaning
use Rattle.tp_meaning.specs.World as world
use Rattle.tp_meaning.specs.World.{at_place, with_box, with_slot, with_status}
use Rattle.tp_meaning.proofs.ValidWorlds.Keeps.{status-same}
use Rattle.tp_meaning.proofs.ValidWorlds.Places.{all-append, map-set}
use Rattle.tp_store.specs.Contents.{Contents, seen}
use Rattle.tp_state.specs.Acts.{awaits_mail, changed, delivered, noted, planned, posted, roused, taken_out}
use Rattle.tp_state.specs.Plain.{Plain, box_of, items_of, process_of, processes_of, with_running, world_of}
use Rattle.tp_state.specs.Stands.{BoxStands, PlainStands}
use Rattle.tp_machine.proofs.Worlds.Plans.{planned-world}
use Rattle.tp_machine.proofs.Worlds.Procs.{noted-world}

-- ---- boxes

boxes-at : (names : List Name) (c : Contents) (g : List Ref → List Ref) (f : List Term → List Term) → ((b : List Ref) → box_of names c (g b) ≡ f (box_of names c b)) → (pid : ℕ) (bs : List (List Ref)) → map (box_of names c) (at_box pid g bs) ≡ at_place pid f (map (box_of names c) bs)
boxes-at names c g f h pid [] = refl
boxes-at names c g f h zero (b ∷ bs) = ap (λ x. x ∷ map (box_of names c) bs) (h b)
boxes-at names c g f h (suc pid) (b ∷ bs) = ap (λ xs. box_of names c b ∷ xs) (boxes-at names c g f h pid bs)

boxes-stand : (n : ℕ) (g : List Ref → List Ref) → ((b : List Ref) → BoxStands n b → BoxStands n (g b)) → (pid : ℕ) (bs : List (List Ref)) → AllByRecursion (BoxStands n) bs → AllByRecursion (BoxStands n) (at_box pid g bs)
boxes-stand n g h pid [] a = tt
boxes-stand n g h zero (b ∷ bs) a = (h b a.0, a.1)
boxes-stand n g h (suc pid) (b ∷ bs) a = (a.0, boxes-stand n g h pid bs a.1)

with_boxes : (names : List Name) (p : Plain) (bs : List (List Ref)) → PlainStands names p → AllByRecursion (BoxStands (length p.store.cells)) bs → PlainStands names (record p { boxes = bs })
with_boxes names p bs s h = record { store = s.store; atoms = s.atoms; lists = s.lists; items = s.items; procs = s.procs; boxes = h; events = s.events }

-- a message comes to the end of a box
pub delivered-world : (names : List Name) (p : Plain) (pid n : ℕ) (r : Ref) → world_of names (delivered pid r p) n ≡ with_box pid (λ b. b ++ seen names p.store r.at ∷ []) (world_of names p n)
delivered-world names p pid n r =
    ap (λ bs. record (world_of names p n) { boxes = bs })
    (boxes-at names p.store (λ b. b ++ r ∷ []) (λ b. b ++ seen names p.store r.at ∷ []) (λ b. map-append (λ (x : Ref). seen names p.store x.at) b (r ∷ [])) pid p.boxes)

pub delivered-stands : (names : List Name) (p : Plain) (pid : ℕ) (r : Ref) → PlainStands names p → r.at < length p.store.cells → PlainStands names (delivered pid r p)
delivered-stands names p pid r s lt = with_boxes names p _ s (boxes-stand (length p.store.cells) (λ b. b ++ r ∷ []) (λ b h. all-append (λ (x : Ref). x.at < length p.store.cells) b (r ∷ []) h (lt, tt)) pid p.boxes s.boxes)

-- ---- a message is taken out

map-take : {A B : Type 0} (f : A → B) (n : ℕ) (xs : List A) → map f (take n xs) ≡ take n (map f xs)
map-take f zero xs = refl
map-take f (suc n) [] = refl
map-take f (suc n) (x ∷ xs) = ap (λ ys. f x ∷ ys) (map-take f n xs)

-- what is behind a place, each element mapped
pub map-drop : {A B : Type 0} (f : A → B) (n : ℕ) (xs : List A) → map f (drop n xs) ≡ drop n (map f xs)
map-drop f zero xs = refl
map-drop f (suc n) [] = refl
map-drop f (suc n) (x ∷ xs) = map-drop f n xs

map-remove : {A B : Type 0} (f : A → B) (i : ℕ) (xs : List A) → map f (remove xs i) ≡ remove (map f xs) i
map-remove f i xs = map-append f (take i xs) (drop (suc i) xs) ∙ ap (λ ys. ys ++ map f (drop (suc i) xs)) (map-take f i xs) ∙ ap (λ ys. take i (map f xs) ++ ys) (map-drop f (suc i) xs)

all-take : {A : Type 0} (P : A → Type 0) (n : ℕ) (xs : List A) → AllByRecursion P xs → AllByRecursion P (take n xs)
all-take P zero xs a = tt
all-take P (suc n) [] a = tt
all-take P (suc n) (x ∷ xs) a = (a.0, all-take P n xs a.1)

all-drop : {A : Type 0} (P : A → Type 0) (n : ℕ) (xs : List A) → AllByRecursion P xs → AllByRecursion P (drop n xs)
all-drop P zero xs a = a
all-drop P (suc n) [] a = tt
all-drop P (suc n) (x ∷ xs) a = all-drop P n xs a.1

pub taken_out-world : (names : List Name) (p : Plain) (pid place n : ℕ) → world_of names (taken_out pid place p) n ≡ with_box pid (λ b. remove b place) (world_of names p n)
taken_out-world names p pid place n =
    ap (λ bs. record (world_of names p n) { boxes = bs })
    (boxes-at names p.store (λ b. remove b place) (λ b. remove b place) (λ b. map-remove (λ (x : Ref). seen names p.store x.at) place b) pid p.boxes)

pub taken_out-stands : (names : List Name) (p : Plain) (pid place : ℕ) → PlainStands names p → PlainStands names (taken_out pid place p)
taken_out-stands names p pid place s =
    let P : Ref → Type 0 = λ x. x.at < length p.store.cells in
    with_boxes names p _ s (boxes-stand (length p.store.cells) (λ b. remove b place) (λ b h. all-append P (take place b) (drop (suc place) b) (all-take P place b h) (all-drop P (suc place) b h)) pid p.boxes s.boxes)

-- ---- a process is roused

-- two changes at any places, which don't see each other
at_places : {A : Type 0} (f g : A → A) → ((x : A) → f (g x) ≡ g (f x)) → (n k : ℕ) (xs : List A) → at_place n f (at_place k g xs) ≡ at_place k g (at_place n f xs)
at_places f g h n k [] = refl
at_places f g h zero zero (x ∷ xs) = ap (λ y. y ∷ xs) (h x)
at_places f g h zero (suc k) (x ∷ xs) = refl
at_places f g h (suc n) zero (x ∷ xs) = refl
at_places f g h (suc n) (suc k) (x ∷ xs) = ap (λ ys. x ∷ ys) (at_places f g h n k xs)

-- a process has another status
pub status-world : (names : List Name) (p : Plain) (pid n : ℕ) (q : Proc) (s : ProcStatus) → slice_get p.procs pid ≡ Some q → world_of names (changed pid (record q { status = s }) p) n ≡ with_status pid s (world_of names p n)
status-world names p pid n q s e =
    ap (λ ps. record (world_of names p n) { processes = ps })
    (ap (with_running p.running is) (map-set (process_of names p) has pid p.procs q (record q { status = s }) e refl) ∙ by p.running)
  where
    is : List world.Item
    is = items_of names p p.items

    has : world.Process → world.Process
    has = λ x. record x { status = s }

    by : (o : Option ℕ) → with_running o (items_of names p p.items) (at_place pid (λ (x : world.Process). record x { status = s }) (map (process_of names p) p.procs)) ≡ at_place pid (λ (x : world.Process). record x { status = s }) (with_running o (items_of names p p.items) (map (process_of names p) p.procs))
    by None = refl
    by (Some r) = at_places (λ (x : world.Process). record x { items = items_of names p p.items }) (λ (x : world.Process). record x { status = s }) (λ x. refl) r pid (map (process_of names p) p.procs)

-- the status of a process
status-is : (names : List Name) (p : Plain) (pid : ℕ) (q : Proc) → slice_get p.procs pid ≡ Some q → world.status_at (processes_of names p) pid ≡ q.status
status-is names p pid q e = by p.running (items_of names p p.items) ∙ at (map (process_of names p) p.procs) pid (process_of names p q) (slice_get-map (process_of names p) p.procs pid ∙ ap (option_map (process_of names p)) e)
  where
    by : (o : Option ℕ) (is : List world.Item) → world.status_at (with_running o is (map (process_of names p) p.procs)) pid ≡ world.status_at (map (process_of names p) p.procs) pid
    by None is = refl
    by (Some r) is = status-same (λ (x : world.Process). record x { items = is }) (λ x. refl) r (map (process_of names p) p.procs) pid

    at : (ps : List world.Process) (n : ℕ) (x : world.Process) → slice_get ps n ≡ Some x → world.status_at ps n ≡ x.status
    at ps n x h = ap (λ o. elim o as (λ _. ProcStatus) [ None ↦ Ended | Some y ↦ y.status ]) h

-- it goes on now where it awaits mail
roused-world : (names : List Name) (p : Plain) (pid n : ℕ) (q : Proc) → slice_get p.procs pid ≡ Some q → world_of names (roused pid q p) n ≡ meaning.woken pid q.status (world_of names p n)
roused-world names p pid n q e = by q.status refl
  where
    other : (s : ProcStatus) → q.status ≡ s → awaits_mail (record q { status = s }) ≡ false → world_of names p n ≡ meaning.woken pid s (world_of names p n) → world_of names (roused pid q p) n ≡ meaning.woken pid q.status (world_of names p n)
    other s is quiet same =
        ap (λ x. world_of names (if awaits_mail (record q { status = x }) then planned pid p.clock (changed pid (record q { status = Scheduled }) p) else p) n) is
        ∙ ap (λ b. world_of names (if b then planned pid p.clock (changed pid (record q { status = Scheduled }) p) else p) n) quiet
        ∙ same ∙ ap (λ x. meaning.woken pid x (world_of names p n)) (sym is)

    by : (s : ProcStatus) → q.status ≡ s → world_of names (roused pid q p) n ≡ meaning.woken pid q.status (world_of names p n)
    by Scheduled is = other Scheduled is refl refl
    by Running is = other Running is refl refl
    by Ended is = other Ended is refl refl
    by (Parked m) is = other (Parked m) is refl refl
    by AwaitsMail is =
        ap (λ x. world_of names (if awaits_mail (record q { status = x }) then planned pid p.clock (changed pid (record q { status = Scheduled }) p) else p) n) is
        ∙ planned-world names (changed pid (record q { status = Scheduled }) p) pid n p.clock
        ∙ ap (with_slot pid p.clock) (status-world names p pid n q Scheduled e)
        ∙ ap (λ x. meaning.woken pid x (world_of names p n)) (sym is)

-- a message was sent
pub posted-world : (names : List Name) (p : Plain) (from n to : ℕ) (r : Ref) (q : Proc) → slice_get p.procs to ≡ Some q → world_of names (posted from r to q p) n ≡ meaning.sent from (seen names p.store r.at) (world_of names p n) to
posted-world names p from n to r q e =
    roused-world names (noted from (event.Send r to) (delivered to r p)) to n q e
    ∙ ap (λ x. meaning.woken to x (world_of names (noted from (event.Send r to) (delivered to r p)) n)) (sym (status-is names p to q e))
    ∙ ap (meaning.woken to (world.status_at (processes_of names p) to)) (noted-world names (delivered to r p) from n (event.Send r to))
    ∙ ap (λ w. meaning.woken to (world.status_at (processes_of names p) to) (world.with_event from (world.Send (seen names p.store r.at) to) w)) (delivered-world names p to n r)
