-- Processes that are made.
use Rattle.std.proofs.Common.{◌≡◌, ℕ, zero, suc, ◌+◌, ◌<◌, Bool, true, false, nat_eq, if◌then◌else◌, List, [], ◌∷◌, ◌++◌, map, length, Option, Some, None, IfSome, is_some, refl, ap, sym, subst, ◌∙◌, arith, length-append}
use Rattle.std.proofs.lemmas.List.{map-append}
use Rattle.std.proofs.lemmas.Iterator.Adapters.{position_from-zero}
use Rattle.std.specs.List.{AllByRecursion, position_from}
use Rattle.tp_terms.specs.declared.Limit.{Limit}
use Rattle.tp_terms.specs.declared.ProcStatus.TheVariants.{Scheduled}
use Rattle.tp_terms.specs.declared.cells.AtomId.{AtomId}
use Rattle.tp_terms.specs.declared.cells.Ref.{Ref}
use Rattle.tp_terms.specs.declared.world.Event.{Event}
use Rattle.tp_terms.specs.declared.world.EventKind.{EventKind}
use Rattle.tp_terms.specs.declared.world.EventKind.TheVariants as kind
use Rattle.tp_terms.specs.declared.world.ItemId.{ItemId}
use Rattle.tp_terms.specs.declared.world.Proc.{Proc}
use Rattle.tp_terms.specs.Events.{KindStands, EventStands}
use Rattle.tp_terms.specs.Names.{AreDistinct}
use Rattle.tp_terms.specs.Term.{Name, Term, comp, names_eq}
use Rattle.tp_terms.specs.Shown.{name_at}
use Rattle.tp_terms.proofs.Naming.Tables.{names_eq-places}
use Rattle.tp_procs.specs.Processes.{named}
use Rattle.tp_meaning.specs.Process.{with_new}
use Rattle.tp_meaning.specs.World as world
use Rattle.tp_meaning.specs.World.{at_place, number_of}
use Rattle.tp_meaning.proofs.ValidWorlds.Places.{all-append, all-weaker, length-at_place}
use Rattle.tp_store.specs.Contents.{seen}
use Rattle.tp_control.specs.declared.frames.Item.TheVariants.{Goal}
use Rattle.tp_state.specs.Acts.{made, new_proc}
use Rattle.tp_state.specs.Plain.{Plain, box_of, item_of, items_of, process_of, processes_of, with_running, world_of}
use Rattle.tp_state.specs.Stands.{BoxStands, PlainStands, ProcStands}
use Rattle.tp_machine.proofs.Step.First.{len-map}
use Rattle.tp_machine.proofs.Worlds.Items.{items_at-last, items_at-more, other-stands, processes-more}

-- ---- the process of a name

-- the number of a name's process doesn't tell of items
number-items : (f : world.Process → world.Process) → ((x : world.Process) → (f x).name ≡ x.name) → (n : Name) (r : ℕ) (ps : List world.Process) → number_of n (at_place r f ps) ≡ number_of n ps
number-items f h n r [] = refl
number-items f h n zero (p ∷ ps) = ap (λ x. if names_eq n x then Some 0 else elim (number_of n ps) as (λ _. Option ℕ) [ None ↦ None | Some k ↦ Some (suc k) ]) (h p)
number-items f h n (suc r) (p ∷ ps) = ap (λ o. if names_eq n p.name then Some 0 else elim o as (λ _. Option ℕ) [ None ↦ None | Some k ↦ Some (suc k) ]) (number-items f h n r ps)

position-next : {A : Type 0} (t : A → Bool) (n : ℕ) (xs : List A) → position_from t (suc n) xs ≡ elim (position_from t n xs) as (λ _. Option ℕ) [ None ↦ None | Some k ↦ Some (suc k) ]
position-next t n [] = refl
position-next t n (x ∷ xs) = go (t x) (position-next t (suc n) xs)
  where
    go : (b : Bool) → position_from t (suc (suc n)) xs ≡ elim (position_from t (suc n) xs) as (λ _. Option ℕ) [ None ↦ None | Some k ↦ Some (suc k) ] → (if b then Some (suc n) else position_from t (suc n + 1) xs) ≡ elim (if b then Some n else position_from t (n + 1) xs) as (λ _. Option ℕ) [ None ↦ None | Some k ↦ Some (suc k) ]
    go true h = refl
    go false h = ap (λ k. position_from t k xs) (let z : suc n + 1 ≡ suc (suc n) = omega arith in z) ∙ h ∙ ap (λ j. elim (position_from t j xs) as (λ _. Option ℕ) [ None ↦ None | Some k ↦ Some (suc k) ]) (let z : suc n ≡ n + 1 = omega arith in z)

module _ (names : List Name) (distinct : AreDistinct names) (name : AtomId) (within : name.at < length names) (p : Plain) where
  number-rows : (qs : List Proc) → AllByRecursion (ProcStands (length names) (length p.frames)) qs → number_of (name_at names name.at) (map (process_of names p) qs) ≡ position_from (λ (x : Proc). nat_eq name.at x.name.at) 0 qs
  number-rows [] h = refl
  number-rows (q ∷ qs) h =
      ap (λ b. if b then Some 0 else elim (number_of (name_at names name.at) (map (process_of names p) qs)) as (λ _. Option ℕ) [ None ↦ None | Some k ↦ Some (suc k) ]) (names_eq-places names distinct name.at q.name.at within h.0.name)
      ∙ ap (λ o. if nat_eq name.at q.name.at then Some 0 else elim o as (λ _. Option ℕ) [ None ↦ None | Some k ↦ Some (suc k) ]) (number-rows qs h.1)
      ∙ ap (λ o. if nat_eq name.at q.name.at then Some 0 else o) (sym (position-next (λ (x : Proc). nat_eq name.at x.name.at) 0 qs))

  -- the process of a name is found by its atom
  pub number_is : AllByRecursion (ProcStands (length names) (length p.frames)) p.procs → number_of (name_at names name.at) (processes_of names p) ≡ named name p.procs
  number_is h = by p.running ∙ number-rows p.procs h ∙ sym (position_from-zero (λ (x : Proc). nat_eq name.at x.name.at) p.procs)
    where
      by : (o : Option ℕ) → number_of (name_at names name.at) (with_running o (items_of names p p.items) (map (process_of names p) p.procs)) ≡ number_of (name_at names name.at) (map (process_of names p) p.procs)
      by None = refl
      by (Some r) = number-items (λ (x : world.Process). record x { items = items_of names p p.items }) (λ x. refl) (name_at names name.at) r (map (process_of names p) p.procs)

-- a process has a name where one of the contents has it
pub number-named : (names : List Name) → AreDistinct names → (p : Plain) → (name : AtomId) → name.at < length names → PlainStands names p → is_some (number_of (name_at names name.at) (processes_of names p)) ≡ is_some (named name p.procs)
number-named names distinct p name within s = ap is_some (number_is names distinct name within p s.procs)

-- ---- a process more

-- there are as many processes as in the contents
pub count-processes : (names : List Name) (p : Plain) → length (processes_of names p) ≡ length p.procs
count-processes names p = go p.running ∙ len-map (process_of names p) p.procs
  where
    go : (o : Option ℕ) → length (with_running o (items_of names p p.items) (map (process_of names p) p.procs)) ≡ length (map (process_of names p) p.procs)
    go None = refl
    go (Some r) = length-at_place (λ (q : world.Process). record q { items = items_of names p p.items }) r (map (process_of names p) p.procs)

at_place-append : {A : Type 0} (f : A → A) (n : ℕ) (xs ys : List A) → n < length xs → at_place n f (xs ++ ys) ≡ at_place n f xs ++ ys
at_place-append f n [] ys lt = absurd (omega arith)
at_place-append f zero (x ∷ xs) ys lt = refl
at_place-append f (suc n) (x ∷ xs) ys lt = ap (λ l. x ∷ l) (at_place-append f n xs ys (omega arith))

events-more : (a n b : ℕ) (es : List Event) → AllByRecursion (EventStands a n b) es → AllByRecursion (EventStands a n (b + 1)) es
events-more a n b es h = all-weaker (EventStands a n b) (EventStands a n (b + 1)) (λ e s. record { process = let lt = s.process in omega arith; kind = by e.kind s.kind }) es h
  where
    by : (k : EventKind) → KindStands a n b k → KindStands a n (b + 1) k
    by (kind.New name s e) h = h
    by kind.Start h = tt
    by (kind.Hold t) h = tt
    by (kind.Send r to) h = (h.0, let x = h.1 in omega arith)
    by (kind.Take r) h = h
    by (kind.Note r) h = h
    by kind.End h = tt

-- a process that was made, by its items
abbrev last : List Name → AtomId → Limit → List world.Item → world.Process
last names name end items = record {
  name = name_at names name.at;
  limit = end;
  started = false;
  status = Scheduled;
  items = items;
}

module _ (names : List Name) (p : Plain) (name : AtomId) (end : Limit) (goal : Ref) (s : PlainStands names p) where
  abbrev more : Plain
  more = record p { frames = p.frames ++ (Goal goal 0 ∷ []) ∷ [] }

  abbrev proc : Proc
  proc = new_proc name end (record { at = length p.frames })

  more_items : IfSome p.items (λ i. i.at < length (p.frames ++ (Goal goal 0 ∷ []) ∷ []))
  more_items = go p.items s.items
    where
      go : (f : Option ItemId) → IfSome f (λ i. i.at < length p.frames) → IfSome f (λ i. i.at < length (p.frames ++ (Goal goal 0 ∷ []) ∷ []))
      go None w = tt
      go (Some i) w = omega (arith, length-append p.frames ((Goal goal 0 ∷ []) ∷ []))

  pub made-stands : name.at < length names → goal.at < length p.store.cells → PlainStands names (made name end goal p)
  made-stands within lt =
      let first = other-stands names p more s (record { more = (Goal goal 0 ∷ []) ∷ []; is = refl; lists = ((lt, tt), tt); place = more_items }) in
      let n = length-append p.frames ((Goal goal 0 ∷ []) ∷ []) in
      let count : length (p.procs ++ proc ∷ []) ≡ length p.procs + 1 = length-append p.procs (proc ∷ []) in
      record {
        store = s.store;
        atoms = s.atoms;
        lists = first.lists;
        items = first.items;
        procs = all-append (ProcStands (length names) (length more.frames)) p.procs (proc ∷ []) first.procs (record { name = within; items = omega (arith, n) }, tt);
        boxes = all-append (BoxStands (length p.store.cells)) p.boxes ([] ∷ []) s.boxes (tt, tt);
        events = subst (λ k. AllByRecursion (EventStands (length names) (length p.store.cells) k) p.events) (sym count) (events-more (length names) (length p.store.cells) (length p.procs) p.events s.events);
      }

  pub made-world : (r n : ℕ) (g : Term) → p.running ≡ Some r → r < length p.procs → seen names p.store goal.at ≡ comp "call" (g ∷ []) → world_of names (made name end goal p) n ≡ with_new g (name_at names name.at) end (world_of names p n)
  made-world r n g runs lt shown =
      let now = items_of names p p.items in
      let rows = map (process_of names p) p.procs in
      let last_one = last names name end (world.Goal (comp "call" (g ∷ [])) 0 ∷ []) in
      ap (λ ps. record (world_of names p n) { processes = ps; boxes = map (box_of names p.store) (p.boxes ++ [] ∷ []) }) (
      ap (λ is. with_running p.running is (map (process_of names more) (p.procs ++ proc ∷ []))) (ap (map (item_of names p.store)) (items_at-more p.frames ((Goal goal 0 ∷ []) ∷ []) p.items s.items))
      ∙ ap (with_running p.running now) (map-append (process_of names more) p.procs (proc ∷ []))
      ∙ ap (λ ps. with_running p.running now (ps ++ process_of names more proc ∷ [])) (processes-more names p ((Goal goal 0 ∷ []) ∷ []) p.items s)
      ∙ ap (λ is. with_running p.running now (rows ++ (last names name end is) ∷ [])) (ap (map (item_of names p.store)) (items_at-last p.frames (Goal goal 0 ∷ [])))
      ∙ ap (λ t. with_running p.running now (rows ++ (last names name end (world.Goal t 0 ∷ [])) ∷ [])) shown
      ∙ ap (λ o. with_running o now (rows ++ last_one ∷ [])) runs
      ∙ at_place-append (λ (q : world.Process). record q { items = now }) r rows (last_one ∷ []) (omega (arith, lt, len-map (process_of names p) p.procs))
      ∙ ap (λ o. with_running o now rows ++ last_one ∷ []) (sym runs)
      )
      ∙ ap (λ bs. record (world_of names p n) { processes = processes_of names p ++ last_one ∷ []; boxes = bs }) (map-append (box_of names p.store) p.boxes ([] ∷ []))
