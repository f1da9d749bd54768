-- The items of the running process, and the world that it goes on to with them.
use Rattle.std.proofs.Common.{◌≡◌, ℕ, zero, suc, ◌+◌, ◌<◌, ◌≤◌, List, [], ◌∷◌, ◌++◌, map, length, Option, Some, None, IfSome, get_or, refl, ap, sym, subst, ◌∙◌, arith, length-append, append_assoc}
use Rattle.std.proofs.lemmas.List.{get_or_append_left}
use Rattle.std.specs.List.{AllByRecursion}
use Rattle.tp_terms.specs.declared.world.ItemId.{ItemId}
use Rattle.tp_terms.specs.declared.world.Proc.{Proc}
use Rattle.tp_terms.specs.Term.{Name}
use Rattle.tp_meaning.specs.World as world
use Rattle.tp_meaning.specs.World.{at_place, with_items, stamped}
use Rattle.tp_meaning.proofs.ValidWorlds.Places.{all-append, all-weaker, map-same, at_place-over}
use Rattle.tp_store.specs.Contents.{Contents}
use Rattle.tp_control.specs.declared.frames.Item.{Item}
use Rattle.tp_control.specs.Lists.{items_at}
use Rattle.tp_state.specs.Plain.{Plain, item_of, items_of, process_of, with_running, processes_of, world_of}
use Rattle.tp_state.specs.Stands.{ItemStands, ItemsStand, ListsStand, ProcStands, PlainStands}
use Rattle.tp_state.specs.Acts.{pushed, resting}

-- the list of a place stands
pub list_stands : (n : ℕ) (ls : List (List Item)) (f : Option ItemId) → ListsStand n ls → IfSome f (λ i. i.at < length ls) → ItemsStand n (items_at ls f)
list_stands n ls None h w = tt
list_stands n ls (Some i) h w = go ls i.at h w
  where
    go : (ls : List (List Item)) (k : ℕ) → ListsStand n ls → k < length ls → ItemsStand n (get_or ls k [])
    go [] k h lt = absurd (omega arith)
    go (l ∷ ls) zero h lt = h.0
    go (l ∷ ls) (suc k) h lt = go ls k h.1 (omega arith)

-- a list that stood still stands where others were added
pub items_at-more : (ls more : List (List Item)) (f : Option ItemId) → IfSome f (λ i. i.at < length ls) → items_at (ls ++ more) f ≡ items_at ls f
items_at-more ls more None w = refl
items_at-more ls more (Some i) w = get_or_append_left ls more [] i.at w

-- the list that was added
pub items_at-last : (ls : List (List Item)) (l : List Item) → items_at (ls ++ l ∷ []) (Some (record { at = length ls })) ≡ l
items_at-last ls l = go ls
  where
    go : (ls : List (List Item)) → get_or (ls ++ l ∷ []) (length ls) [] ≡ l
    go [] = refl
    go (x ∷ xs) = go xs

-- processes whose items stood still stand where lists were added
pub procs-later : (names n m : ℕ) (qs : List Proc) → n ≤ m → AllByRecursion (ProcStands names n) qs → AllByRecursion (ProcStands names m) qs
procs-later names n m qs le h = all-weaker (ProcStands names n) (ProcStands names m) (λ q s. record { name = s.name; items = later q.items s.items }) qs h
  where
    later : (f : Option ItemId) → IfSome f (λ i. i.at < n) → IfSome f (λ i. i.at < m)
    later None w = tt
    later (Some i) w = omega arith

-- Contents with further lists and other items for the running process.
pub record OtherItems (names : List Name) (p q : Plain) : Type 0 where
  pub more : List (List Item)
  pub is : q ≡ record p { frames = p.frames ++ more; items = q.items }
  pub lists : ListsStand (length p.store.cells) more
  pub place : IfSome q.items (λ i. i.at < length (p.frames ++ more))

-- they stand
pub other-stands : (names : List Name) (p q : Plain) → PlainStands names p → OtherItems names p q → PlainStands names q
other-stands names p q s o = subst (PlainStands names) (sym o.is) (record {
  store = s.store;
  atoms = s.atoms;
  lists = all-append (ItemsStand (length p.store.cells)) p.frames o.more s.lists o.lists;
  items = o.place;
  procs = procs-later (length names) (length p.frames) (length (p.frames ++ o.more)) p.procs (omega (arith, length-append p.frames o.more)) s.procs;
  boxes = s.boxes;
  events = s.events;
})

-- the processes that don't run are the same
pub processes-more : (names : List Name) (p : Plain) (more : List (List Item)) (f : Option ItemId) → PlainStands names p → map (process_of names (record p { frames = p.frames ++ more; items = f })) p.procs ≡ map (process_of names p) p.procs
processes-more names p more f s = map-same (process_of names (record p { frames = p.frames ++ more; items = f })) (process_of names p) (ProcStands (length names) (length p.frames))
    (λ q h. ap (λ is. record { name = Rattle.tp_terms.specs.Shown.name_at names q.name.at; limit = q.end; started = q.started; status = q.status; items = map (item_of names p.store) is }) (items_at-more p.frames more q.items h.items)) p.procs s.procs

-- and the running one has its items
pub other-world : (names : List Name) (p q : Plain) (r d : ℕ) → PlainStands names p → OtherItems names p q → p.running ≡ Some r → world_of names q (d + 1) ≡ with_items r (items_of names q q.items) (stamped (world_of names p d))
other-world names p q r d s o e =
    ap (λ x. world_of names x (d + 1)) o.is
    ∙ ap (λ ps. record (world_of names q' (d + 1)) { processes = ps }) same
    ∙ ap (λ is. with_items r is (stamped (world_of names p d))) (sym (ap (λ (x : Plain). items_of names x x.items) o.is))
  where
    q' : Plain
    q' = record p { frames = p.frames ++ o.more; items = q.items }

    f : List world.Item → world.Process → world.Process
    f is = λ x. record x { items = is }

    same : processes_of names (record p { frames = p.frames ++ o.more; items = q.items }) ≡ at_place r (λ (x : world.Process). record x { items = items_of names (record p { frames = p.frames ++ o.more; items = q.items }) q.items }) (processes_of names p)
    same =
        let new = items_of names (record p { frames = p.frames ++ o.more; items = q.items }) q.items in
        let now = items_of names p p.items in
        let rows = map (process_of names p) p.procs in
        ap (with_running p.running new) (processes-more names p o.more q.items s)
        ∙ ap (λ o'. with_running o' new rows) e
        ∙ sym (at_place-over (λ (x : world.Process). record x { items = new }) (λ (x : world.Process). record x { items = now }) (λ x. refl) r rows)
        ∙ ap (λ o'. at_place r (λ (x : world.Process). record x { items = new }) (with_running o' now rows)) (sym e)

-- ---- what the acts on items do

pub other-rest : (names : List Name) (p : Plain) (rest : Option ItemId) → IfSome rest (λ i. i.at < length p.frames) → OtherItems names p (resting rest p)
other-rest names p rest w = record {
  more = [];
  is = ap (λ ls. record p { frames = ls; items = rest }) (sym (nil p.frames));
  lists = tt;
  place = subst (λ (ls : List (List Item)). IfSome rest (λ i. i.at < length ls)) (sym (nil p.frames)) w;
}
  where
    nil : (ls : List (List Item)) → ls ++ [] ≡ ls
    nil ls = Rattle.std.proofs.lemmas.List.append-nil ls

-- one item more in front of those
pub other-push : (names : List Name) (p q : Plain) (item : Item) → PlainStands names p → OtherItems names p q → ItemStands (length p.store.cells) item → OtherItems names p (pushed item q)
other-push names p q item s o h =
    let ls = p.frames ++ o.more in
    let stands = other-stands names p q s o in
    let same : q.frames ≡ ls = ap (λ (x : Plain). x.frames) o.is in
    let cells : q.store ≡ p.store = ap (λ (x : Plain). x.store) o.is in
    let new = item ∷ items_at q.frames q.items in
    record {
      more = o.more ++ new ∷ [];
      is = ap (λ (x : Plain). record x { frames = q.frames ++ new ∷ []; items = Some (record { at = length q.frames }) }) o.is
          ∙ ap (λ (l : List (List Item)). record p { frames = l; items = Some (record { at = length q.frames }) }) (ap (λ (l' : List (List Item)). l' ++ new ∷ []) same ∙ append_assoc p.frames o.more (new ∷ []));
      lists = all-append (ItemsStand (length p.store.cells)) o.more (new ∷ []) o.lists ((h, subst (λ (c : Contents). ItemsStand (length c.cells) (items_at q.frames q.items)) cells (list_stands (length q.store.cells) q.frames q.items stands.lists stands.items)), tt);
      place = omega (arith, ap length same, length-append p.frames o.more, length-append p.frames (o.more ++ new ∷ []), length-append o.more (new ∷ []));
    }

pub pushed-items : (item : Item) (q : Plain) → items_at (pushed item q).frames (pushed item q).items ≡ item ∷ items_at q.frames q.items
pushed-items item q = items_at-last q.frames (item ∷ items_at q.frames q.items)
