-- A table of names grows, and no world, base or choice changes by it.
use Rattle.std.proofs.Common.{◌≡◌, [], ℕ, ◌≤◌, List, ◌∷◌, map, reverse, length, is_some, Option, Some, None, option_map, refl, ap, sym, subst, ◌∙◌, arith}
use Rattle.std.specs.List.{AllByRecursion}
use Rattle.std.proofs.lemmas.List.{reverse-append}
use Rattle.tp_terms.specs.declared.cells.Ref.{Ref}
use Rattle.tp_terms.specs.declared.world.Proc.{Proc}
use Rattle.tp_terms.specs.declared.world.Event.{Event}
use Rattle.tp_terms.specs.declared.world.EventKind.{EventKind}
use Rattle.tp_terms.specs.declared.world.EventKind.TheVariants as kind
use Rattle.tp_terms.specs.Term.{Name, Term}
use Rattle.tp_terms.specs.Names.{Grows}
use Rattle.tp_terms.specs.Shown.{shows, name_at, AreNamed}
use Rattle.tp_terms.proofs.Naming.Tables.{Grows-shows, Grows-name_at, Grows-length}
use Rattle.tp_terms.proofs.Places.Shown.{AreNamed-longer}
use Rattle.tp_meaning.specs.Control.{arg}
use Rattle.tp_meaning.specs.Subst.{mgu, apply}
use Rattle.tp_meaning.specs.Clauses.{Base, renamed, head_of}
use Rattle.tp_meaning.specs.World as world
use Rattle.tp_meaning.proofs.ValidWorlds.Places.{all-weaker, all-append, map-same}
use Rattle.tp_store.specs.Contents.{Contents, subst_of, seen}
use Rattle.tp_store.proofs.Standing.Facts.{subst_of-names}
use Rattle.tp_clauses.specs.declared.base.ClauseView.{ClauseView}
use Rattle.tp_clauses.specs.Contents as kept
use Rattle.tp_clauses.specs.Contents.{base_of, clause_of, clause_by}
use Rattle.tp_control.specs.declared.frames.Item.{Item}
use Rattle.tp_control.specs.declared.frames.Item.TheVariants.{Goal, Commit, Retry}
use Rattle.tp_control.specs.declared.choices.Alt.{Alt}
use Rattle.tp_control.specs.declared.choices.Alt.TheVariants as alt
use Rattle.tp_machine.specs.Heads.{unifier}
use Rattle.tp_control.specs.Lists.{items_at}
use Rattle.tp_state.specs.Plain.{Plain, item_of, items_of, process_of, with_running, processes_of, box_of, kind_of, event_of, world_of}
use Rattle.tp_terms.specs.Events.{KindStands, EventStands}
use Rattle.tp_state.specs.Stands.{ProcStands, PlainStands}
use Rattle.tp_machine.specs.Machine.{GoesOn, again, choosing, waiting}

-- a map by two functions that agree on each element
map-each : {A B : Type 0} (f g : A → B) → ((x : A) → f x ≡ g x) → (xs : List A) → map f xs ≡ map g xs
map-each f g h [] = refl
map-each f g h (x ∷ xs) = ap (λ b. b ∷ map f xs) (h x) ∙ ap (λ bs. g x ∷ bs) (map-each f g h xs)

-- all of a list, from behind
pub all-reverse : {A : Type 0} (P : A → Type 0) (xs : List A) → AllByRecursion P xs → AllByRecursion P (reverse xs)
all-reverse P [] h = tt
all-reverse P (x ∷ xs) h = subst (AllByRecursion P) (sym (reverse-append (x ∷ []) xs)) (all-append P (reverse xs) (x ∷ []) (all-reverse P xs h.1) (h.0, tt))

-- ---- a store whose atoms are of the shorter table

module _ (old new : List Name) (grows : Grows old new) (c : Contents) (named : AreNamed (length old) c.cells) where
  -- the bindings stand for the same substitution
  pub subst-later : subst_of new c ≡ subst_of old c
  subst-later = ap (λ names. subst_of names c) grows.added ∙ subst_of-names old grows.more c named

  -- each place is seen as before
  pub seen-later : (at : ℕ) → seen new c at ≡ seen old c at
  seen-later at = ap (λ s. apply s (shows new c.cells at)) subst-later ∙ ap (apply (subst_of old c)) (Grows-shows old new grows c.cells at named)

  item-later : (i : Item) → item_of new c i ≡ item_of old c i
  item-later (Goal g b) = ap (λ t. world.Goal t b) (seen-later g.at)
  item-later (Commit s) = refl
  item-later (Retry g) = ap world.Retry (seen-later g.at)

  -- each item is the same one
  pub item_list-later : (is : List Item) → map (item_of new c) is ≡ map (item_of old c) is
  item_list-later = map-each (item_of new c) (item_of old c) item-later

  box-later : (rs : List Ref) → box_of new c rs ≡ box_of old c rs
  box-later = map-each (λ (r : Ref). seen new c r.at) (λ (r : Ref). seen old c r.at) (λ r. seen-later r.at)

  boxes-later : (bs : List (List Ref)) → map (box_of new c) bs ≡ map (box_of old c) bs
  boxes-later = map-each (box_of new c) (box_of old c) box-later

  kind-later : (n b : ℕ) (k : EventKind) → KindStands (length old) n b k → kind_of new c k ≡ kind_of old c k
  kind-later n b (kind.New name s e) h = ap (λ t. world.New t s e) (Grows-name_at old new grows name.at h)
  kind-later n b kind.Start h = refl
  kind-later n b (kind.Hold t) h = refl
  kind-later n b (kind.Send r to) h = ap (λ t. world.Send t to) (seen-later r.at)
  kind-later n b (kind.Take r) h = ap world.Take (seen-later r.at)
  kind-later n b (kind.Note r) h = ap world.Note (seen-later r.at)
  kind-later n b kind.End h = refl

  events-later : (n b : ℕ) (es : List Event) → AllByRecursion (EventStands (length old) n b) es → map (event_of new c) es ≡ map (event_of old c) es
  events-later n b = map-same (event_of new c) (event_of old c) (EventStands (length old) n b) (λ e h. ap (λ k. record { time = e.time; process = e.pid; kind = k }) (kind-later n b e.kind h.kind))

  -- a goal has the same unifier with a head
  pub unifier-later : (goal : ℕ) (head : Term) → unifier new c goal head ≡ unifier old c goal head
  unifier-later goal head =
      ap (λ s. mgu s (shows new c.cells goal) (renamed c.vars head)) subst-later
      ∙ ap (λ t. mgu (subst_of old c) t (renamed c.vars head)) (Grows-shows old new grows c.cells goal named)

-- ---- worlds

module _ (old new : List Name) (grows : Grows old new) (p : Plain) (s : PlainStands old p) where
  rows-later : map (process_of new p) p.procs ≡ map (process_of old p) p.procs
  rows-later = map-same (process_of new p) (process_of old p) (ProcStands (length old) (length p.frames)) row p.procs s.procs
    where
      row : (q : Proc) → ProcStands (length old) (length p.frames) q → process_of new p q ≡ process_of old p q
      row q h =
          ap (λ n. record { name = n; limit = q.end; started = q.started; status = q.status; items = items_of new p q.items }) (Grows-name_at old new grows q.name.at h.name)
          ∙ ap (λ is. record { name = name_at old q.name.at; limit = q.end; started = q.started; status = q.status; items = is }) (item_list-later old new grows p.store s.atoms (items_at p.frames q.items))

  processes-later : processes_of new p ≡ processes_of old p
  processes-later =
      ap (λ is. with_running p.running is (map (process_of new p) p.procs)) (item_list-later old new grows p.store s.atoms (items_at p.frames p.items))
      ∙ ap (with_running p.running (items_of old p p.items)) rows-later

  -- the world of contents that stand is the same under the longer table
  pub world-later : (n : ℕ) → world_of new p n ≡ world_of old p n
  world-later n =
      ap (λ u. record (world_of new p n) { subst = u }) (subst-later old new grows p.store s.atoms)
      ∙ ap (λ ps. record (world_of new p n) { subst = subst_of old p.store; processes = ps }) processes-later
      ∙ ap (λ bs. record (world_of new p n) { subst = subst_of old p.store; processes = processes_of old p; boxes = bs }) (boxes-later old new grows p.store s.atoms p.boxes)
      ∙ ap (λ es. record (world_of old p n) { history = es }) (events-later old new grows p.store s.atoms (length p.store.cells) (length p.procs) p.events s.events)

  -- and they still stand
  pub stands-later : PlainStands new p
  stands-later =
      let le = Grows-length old new grows in
      let n = length p.store.cells in
      record {
        store = s.store;
        atoms = AreNamed-longer (length old) (length new) p.store.cells le s.atoms;
        lists = s.lists;
        items = s.items;
        procs = all-weaker (ProcStands (length old) (length p.frames)) (ProcStands (length new) (length p.frames)) (λ q h. record { name = omega (arith, h.name, le); items = h.items }) p.procs s.procs;
        boxes = s.boxes;
        events = all-weaker (EventStands (length old) n (length p.procs)) (EventStands (length new) n (length p.procs)) (λ e h. record { process = h.process; kind = more (length old) (length new) n (length p.procs) e.kind le h.kind }) p.events s.events;
      }
    where
      more : (a d n b : ℕ) (k : EventKind) → a ≤ d → KindStands a n b k → KindStands d n b k
      more a d n b (kind.New name st e) le h = omega arith
      more a d n b kind.Start le h = h
      more a d n b (kind.Hold t) le h = h
      more a d n b (kind.Send r to) le h = h
      more a d n b (kind.Take r) le h = h
      more a d n b (kind.Note r) le h = h
      more a d n b kind.End le h = h

-- ---- bases

-- the clauses are the same under the longer table
pub base-later : (old new : List Name) → Grows old new → (b : kept.Contents) → AreNamed (length old) b.cells → base_of new b ≡ base_of old b
base-later old new grows b named = map-each (clause_of new b.cells) (clause_of old b.cells) one b.clauses
  where
    body : (o : Option Ref) → option_map (λ (r : Ref). shows new b.cells r.at) o ≡ option_map (λ (r : Ref). shows old b.cells r.at) o
    body None = refl
    body (Some r) = ap Some (Grows-shows old new grows b.cells r.at named)

    one : (v : ClauseView) → clause_of new b.cells v ≡ clause_of old b.cells v
    one v =
        ap (λ t. clause_by t (option_map (λ (r : Ref). shows new b.cells r.at) v.body) v.vars) (Grows-shows old new grows b.cells v.head.at named)
        ∙ ap (λ o. clause_by (shows old b.cells v.head.at) o v.vars) (body v.body)

-- ---- choices

-- what is next can still be gone on with
pub goes_on-later : (old new : List Name) → Grows old new → (base : Base) (p : Plain) (next : Alt) → PlainStands old p → GoesOn old base p next → GoesOn new base p next
goes_on-later old new grows base p (alt.Clause place) s h = record {
  process = h.process;
  running = h.running;
  goal = h.goal;
  barrier = h.barrier;
  rest = h.rest;
  list = h.list;
  name = h.name;
  args = h.args;
  is = seen-later old new grows p.store s.atoms h.goal.at ∙ h.is;
  kind = h.kind;
  clause = h.clause;
  more = h.more;
  here = h.here;
  hit = ap is_some (unifier-later old new grows p.store s.atoms h.goal.at (head_of h.clause)) ∙ h.hit;
  few = h.few;
}
goes_on-later old new grows base p alt.Second s (again h) = again h
goes_on-later old new grows base p alt.Second s (choosing h) = choosing (record {
  process = h.process;
  running = h.running;
  goal = h.goal;
  barrier = h.barrier;
  rest = h.rest;
  list = h.list;
  name = h.name;
  args = h.args;
  is = seen-later old new grows p.store s.atoms h.goal.at ∙ h.is;
  control = h.control;
  kind = h.kind;
  two = h.two;
})
goes_on-later old new grows base p alt.Second s (waiting h) = waiting (record {
  process = h.process;
  running = h.running;
  goal = h.goal;
  barrier = h.barrier;
  rest = h.rest;
  list = h.list;
  name = h.name;
  args = h.args;
  is = seen-later old new grows p.store s.atoms h.goal.at ∙ h.is;
  kind = h.kind;
})
goes_on-later old new grows base p (alt.Message place) s h = record {
  process = h.process;
  running = h.running;
  goal = h.goal;
  barrier = h.barrier;
  rest = h.rest;
  list = h.list;
  name = h.name;
  args = h.args;
  is = seen-later old new grows p.store s.atoms h.goal.at ∙ h.is;
  kind = h.kind;
  message = h.message;
  more = h.more;
  here = h.here;
  fits =
      ap (λ u. is_some (mgu u (seen new p.store h.message.at) (arg 0 h.args))) (subst-later old new grows p.store s.atoms)
      ∙ ap (λ x. is_some (mgu (subst_of old p.store) x (arg 0 h.args))) (seen-later old new grows p.store s.atoms h.message.at)
      ∙ h.fits;
  few = h.few;
}
