-- Contents whose places show other terms, each changed in the same way.
use Rattle.std.proofs.Common.{◌≡◌, ℕ, ◌<◌, ◌≤◌, List, map, length, Option, Some, None, refl, ap, sym, ◌∙◌, arith}
use Rattle.std.specs.List.{AllByRecursion}
use Rattle.tp_terms.specs.declared.cells.Ref.{Ref}
use Rattle.tp_terms.specs.declared.world.Event.{Event}
use Rattle.tp_terms.specs.declared.world.EventKind.{EventKind}
use Rattle.tp_terms.specs.declared.world.EventKind.TheVariants as kind
use Rattle.tp_terms.specs.Term.{Name, Term}
use Rattle.tp_terms.specs.Shown.{name_at, AreNamed}
use Rattle.tp_meaning.specs.Subst.{apply}
use Rattle.tp_meaning.specs.World as world
use Rattle.tp_meaning.specs.World.{world_under, item_by, kind_by, event_by, process_by}
use Rattle.tp_meaning.proofs.ValidWorlds.Places.{all-weaker, map-same, map-map, map-itself, at_place-map}
use Rattle.tp_store.specs.Contents.{Contents, IsStore, subst_of, seen}
use Rattle.tp_control.specs.declared.frames.Item.{Item}
use Rattle.tp_control.specs.declared.frames.Item.TheVariants.{Goal, Commit, Retry}
use Rattle.tp_control.specs.Lists.{items_at}
use Rattle.tp_state.specs.Plain.{Plain, item_of, items_of, process_of, with_running, processes_of, box_of, kind_of, event_of, world_of}
use Rattle.tp_terms.specs.Events.{KindStands, EventStands}
use Rattle.tp_state.specs.Stands.{ItemStands, ItemsStand, ProcStands, BoxStands, PlainStands}
use Rattle.tp_machine.proofs.Worlds.Items.{list_stands}

-- a store with further cells, whose old places are seen as before but for a change
pub record OtherStore (names : List Name) (f : Term → Term) (c d : Contents) : Type 0 where
  pub store : IsStore d
  pub atoms : AreNamed (length names) d.cells
  pub longer : length c.cells ≤ length d.cells
  pub terms : (at : ℕ) → at < length c.cells → seen names d at ≡ f (seen names c at)

-- ---- all places still stand

items-longer : (n m : ℕ) (is : List Item) → n ≤ m → ItemsStand n is → ItemsStand m is
items-longer n m is le h = all-weaker (ItemStands n) (ItemStands m) one is h
  where
    one : (i : Item) → ItemStands n i → ItemStands m i
    one (Goal g b) w = omega arith
    one (Commit s) w = tt
    one (Retry g) w = omega arith

kind-longer : (a n m b : ℕ) (k : EventKind) → n ≤ m → KindStands a n b k → KindStands a m b k
kind-longer a n m b (kind.New name s e) le h = h
kind-longer a n m b kind.Start le h = tt
kind-longer a n m b (kind.Hold t) le h = tt
kind-longer a n m b (kind.Send r to) le h = (let x = h.0 in omega arith, h.1)
kind-longer a n m b (kind.Take r) le h = omega arith
kind-longer a n m b (kind.Note r) le h = omega arith
kind-longer a n m b kind.End le h = tt

pub store-stands : (names : List Name) (f : Term → Term) (p : Plain) (d : Contents) → PlainStands names p → OtherStore names f p.store d → PlainStands names (record p { store = d })
store-stands names f p d s o =
    let n = length p.store.cells in
    let m = length d.cells in
    record {
      store = o.store;
      atoms = o.atoms;
      lists = all-weaker (ItemsStand n) (ItemsStand m) (λ is h. items-longer n m is o.longer h) p.frames s.lists;
      items = s.items;
      procs = s.procs;
      boxes = all-weaker (BoxStands n) (BoxStands m) (λ b h. all-weaker (λ (r : Ref). r.at < n) (λ (r : Ref). r.at < m) (λ r w. omega (arith, o.longer)) b h) p.boxes s.boxes;
      events = all-weaker (EventStands (length names) n (length p.procs)) (EventStands (length names) m (length p.procs)) (λ e h. record { process = h.process; kind = kind-longer (length names) n m (length p.procs) e.kind o.longer h.kind }) p.events s.events;
    }

-- ---- what is seen

module _ (names : List Name) (f : Term → Term) (c d : Contents) (terms : (at : ℕ) → at < length c.cells → seen names d at ≡ f (seen names c at)) where
  item-by : (i : Item) → ItemStands (length c.cells) i → item_of names d i ≡ item_by f (item_of names c i)
  item-by (Goal g b) h = ap (λ t. world.Goal t b) (terms g.at h)
  item-by (Commit s) h = refl
  item-by (Retry g) h = ap world.Retry (terms g.at h)

  pub items-by : (is : List Item) → ItemsStand (length c.cells) is → map (item_of names d) is ≡ map (item_by f) (map (item_of names c) is)
  items-by is h = map-same (item_of names d) (λ i. item_by f (item_of names c i)) (ItemStands (length c.cells)) item-by is h ∙ sym (map-map (item_by f) (item_of names c) is)

  boxes-by : (bs : List (List Ref)) → AllByRecursion (BoxStands (length c.cells)) bs → map (box_of names d) bs ≡ map (map f) (map (box_of names c) bs)
  boxes-by bs h =
      map-same (box_of names d) (λ b. map f (box_of names c b)) (BoxStands (length c.cells))
      (λ b k. map-same (λ (r : Ref). seen names d r.at) (λ (r : Ref). f (seen names c r.at)) (λ (r : Ref). r.at < length c.cells) (λ r w. terms r.at w) b k ∙ sym (map-map f (λ (r : Ref). seen names c r.at) b)) bs h
      ∙ sym (map-map (map f) (box_of names c) bs)

  kind-by : (b : ℕ) (k : EventKind) → KindStands (length names) (length c.cells) b k → kind_of names d k ≡ kind_by f (kind_of names c k)
  kind-by b (kind.New name s e) h = refl
  kind-by b kind.Start h = refl
  kind-by b (kind.Hold t) h = refl
  kind-by b (kind.Send r to) h = ap (λ t. world.Send t to) (terms r.at h.0)
  kind-by b (kind.Take r) h = ap world.Take (terms r.at h)
  kind-by b (kind.Note r) h = ap world.Note (terms r.at h)
  kind-by b kind.End h = refl

  events-by : (b : ℕ) (es : List Event) → AllByRecursion (EventStands (length names) (length c.cells) b) es → map (event_of names d) es ≡ map (event_by f) (map (event_of names c) es)
  events-by b es h =
      map-same (event_of names d) (λ e. event_by f (event_of names c e)) (EventStands (length names) (length c.cells) b)
      (λ e k. ap (λ x. record { time = e.time; process = e.pid; kind = x }) (kind-by b e.kind k.kind)) es h
      ∙ sym (map-map (event_by f) (event_of names c) es)

-- the processes, each item changed
module _ (names : List Name) (f : Term → Term) (p : Plain) (d : Contents) (s : PlainStands names p) (terms : (at : ℕ) → at < length p.store.cells → seen names d at ≡ f (seen names p.store at)) where
  rows-by : map (process_of names (record p { store = d })) p.procs ≡ map (process_by f) (map (process_of names p) p.procs)
  rows-by =
      map-same (process_of names (record p { store = d })) (λ q. process_by f (process_of names p q)) (ProcStands (length names) (length p.frames))
      (λ q h. ap (λ is. record { name = name_at names q.name.at; limit = q.end; started = q.started; status = q.status; items = is })
      (items-by names f p.store d terms (items_at p.frames q.items) (list_stands (length p.store.cells) p.frames q.items s.lists h.items))) p.procs s.procs
      ∙ sym (map-map (process_by f) (process_of names p) p.procs)

  running-by : (o : Option ℕ) (is : List world.Item) (rows : List world.Process) → with_running o (map (item_by f) is) (map (process_by f) rows) ≡ map (process_by f) (with_running o is rows)
  running-by None is rows = refl
  running-by (Some r) is rows = sym (at_place-map (process_by f) (λ (q : world.Process). record q { items = is }) (λ (q : world.Process). record q { items = map (item_by f) is }) (λ x. refl) r rows)

  pub processes-by : processes_of names (record p { store = d }) ≡ map (process_by f) (processes_of names p)
  processes-by =
      ap (λ is. with_running p.running is (map (process_of names (record p { store = d })) p.procs)) (items-by names f p.store d terms (items_at p.frames p.items) (list_stands (length p.store.cells) p.frames p.items s.lists s.items))
      ∙ ap (with_running p.running (map (item_by f) (items_of names p p.items))) rows-by
      ∙ running-by p.running (items_of names p p.items) (map (process_of names p) p.procs)

  by_parts : (n : ℕ) → world_of names (record p { store = d }) n ≡ record (world_of names p n) {
    subst = subst_of names d;
    next = d.vars;
    processes = map (process_by f) (processes_of names p);
    boxes = map (map f) (map (box_of names p.store) p.boxes);
    history = map (event_by f) (map (event_of names p.store) p.events);
  }
  by_parts n =
      ap (λ ps. record (world_of names (record p { store = d }) n) { processes = ps }) processes-by
      ∙ ap (λ bs. record (world_of names p n) { subst = subst_of names d; next = d.vars; processes = map (process_by f) (processes_of names p); boxes = bs; history = map (event_of names d) p.events }) (boxes-by names f p.store d terms p.boxes s.boxes)
      ∙ ap (λ es. record (world_of names p n) { subst = subst_of names d; next = d.vars; processes = map (process_by f) (processes_of names p); boxes = map (map f) (map (box_of names p.store) p.boxes); history = es }) (events-by names f p.store d terms (length p.procs) p.events s.events)

-- under a further substitution
pub under-world : (names : List Name) (p : Plain) (d : Contents) (n : ℕ) → PlainStands names p → OtherStore names (apply (subst_of names d)) p.store d → world_of names (record p { store = d }) n ≡ world_under (subst_of names d) (record (world_of names p n) { next = d.vars })
under-world names p d n s o = by_parts names (apply (subst_of names d)) p d s o.terms n

-- nothing is seen in another way
pub items-itself : (is : List world.Item) → map (item_by (λ t. t)) is ≡ is
items-itself is = map-itself (item_by (λ t. t)) one is
  where
    one : (i : world.Item) → item_by (λ t. t) i ≡ i
    one (world.Goal g b) = refl
    one (world.Commit c) = refl
    one (world.Retry g) = refl

event-itself : (e : world.Event) → event_by (λ t. t) e ≡ e
event-itself e = go e.kind
  where
    go : (k : world.EventKind) → record e { kind = kind_by (λ t. t) k } ≡ record e { kind = k }
    go (world.New n t l) = refl
    go world.Start = refl
    go world.End = refl
    go (world.Hold t) = refl
    go (world.Send m q) = refl
    go (world.Take m) = refl
    go (world.Note m) = refl

pub same-world : (names : List Name) (p : Plain) (d : Contents) (n : ℕ) → PlainStands names p → OtherStore names (λ t. t) p.store d → subst_of names d ≡ subst_of names p.store → d.vars ≡ p.store.vars → world_of names (record p { store = d }) n ≡ world_of names p n
same-world names p d n s o es ev =
    by_parts names (λ t. t) p d s o.terms n
    ∙ ap (λ u. record (world_of names p n) { subst = u; next = d.vars; processes = map (process_by (λ t. t)) (processes_of names p); boxes = map (map (λ t. t)) (map (box_of names p.store) p.boxes); history = map (event_by (λ t. t)) (map (event_of names p.store) p.events) }) es
    ∙ ap (λ v. record (world_of names p n) { next = v; processes = map (process_by (λ t. t)) (processes_of names p); boxes = map (map (λ t. t)) (map (box_of names p.store) p.boxes); history = map (event_by (λ t. t)) (map (event_of names p.store) p.events) }) ev
    ∙ ap (λ ps. record (world_of names p n) { processes = ps; boxes = map (map (λ t. t)) (map (box_of names p.store) p.boxes); history = map (event_by (λ t. t)) (map (event_of names p.store) p.events) })
    (map-itself (process_by (λ t. t)) (λ (q : world.Process). ap (λ is. record q { items = is }) (items-itself q.items)) (processes_of names p))
    ∙ ap (λ bs. record (world_of names p n) { boxes = bs; history = map (event_by (λ t. t)) (map (event_of names p.store) p.events) })
    (map-itself (map (λ t. t)) (λ ts. map-itself (λ t. t) (λ t. refl) ts) (map (box_of names p.store) p.boxes))
    ∙ ap (λ es'. record (world_of names p n) { history = es' }) (map-itself (event_by (λ t. t)) event-itself (map (event_of names p.store) p.events))
