-- An engine's state as it is printed: what its bindings stand for is the substitution of its world.
use Rattle.std.proofs.Common.{◌≡◌, ℕ, ◌+◌, ◌<◌, ◌≤◌, List, [], ◌∷◌, ◌++◌, map, length, take, slice_get, Option, Some, None, chars, ℤ, refl, sym, ap, subst, ◌∙◌, arith, add-one}
use Rattle.std.proofs.Math.Seq.{take-suc}
use Rattle.std.proofs.lemmas.Option.{slice_get_within, get_or_from_slice_get}
use Rattle.std.proofs.lemmas.Str.{chars-nil}
use Rattle.std.specs.List.{AllByRecursion}
use Rattle.std.proofs.lemmas.List.{length-map, take_all}
use Rattle.tp_terms.specs.declared.cells.AtomId.{AtomId}
use Rattle.tp_terms.specs.declared.cells.Cell.{Cell}
use Rattle.tp_terms.specs.declared.cells.Ref.{Ref}
use Rattle.tp_terms.specs.declared.world.Event.{Event}
use Rattle.tp_terms.specs.declared.world.EventKind.{EventKind}
use Rattle.tp_terms.specs.declared.world.EventKind.TheVariants as kind
use Rattle.tp_terms.specs.declared.world.Proc.{Proc}
use Rattle.tp_terms.specs.declared.text.Named.{Named}
use Rattle.tp_terms.specs.Term.{Name}
use Rattle.tp_terms.specs.Shown.{name_at, shows}
use Rattle.tp_terms.specs.Binds.{Fits}
use Rattle.tp_meaning.specs.Subst.{value_at, apply}
use Rattle.tp_meaning.specs.World.{Item, Process, World}
use Rattle.tp_meaning.proofs.ValidWorlds.Places.{map-at_place}
use Rattle.tp_store.specs.Contents.{Contents, IsStore, seen, subst_of}
use Rattle.tp_store.proofs.Standing.Facts.{value-bound, value-unbound}
use Rattle.tp_parse.specs.Ops.{Entries, table_of}
use Rattle.tp_write.specs.Text.{text}
use Rattle.tp_write.specs.Under.{under}
use Rattle.tp_write.proofs.BindingsEnd.Under.{under-agrees}
use Rattle.tp_terms.specs.Events.{EventStands}
use Rattle.tp_report.specs.Report.{world_answer_text}
use Rattle.tp_report.specs.Seen.{kind_by, event_by, process_names, seen_in as in_scene}
use Rattle.tp_report.specs.Worlds.{StandsFor}
use Rattle.tp_engine.specs.Answers.{answer_in}
use Rattle.tp_state.specs.Plain.{Plain, event_of, items_of, kind_of, process_of, with_running}
use Rattle.tp_engine.specs.Told.{Snapshot, IsSound, world_in, seen_in}
use Rattle.tp_top.specs.Told.{lines_of}

-- the term of a place with all bindings followed is the term that is seen in the store
pub under-seen : (names : List Name) (c : Contents) → IsStore c → Fits c.pairs c.cells → (at : ℕ) → under names c.pairs c.cells at ≡ seen names c at
under-seen names c store fits at =
    under-agrees names c.pairs c.cells fits (value_at (subst_of names c))
    (record { bound = λ v place e. value-bound names c v place store e; unbound = λ v e. value-unbound names c v store e }) at

-- ---- events

kind-seen : (names : List Name) (c : Contents) (k : EventKind) → kind_of names c k ≡ kind_by names (λ at. apply (subst_of names c) (shows names c.cells at)) k
kind-seen names c (kind.New name start end) = refl
kind-seen names c kind.Start = refl
kind-seen names c (kind.Hold duration) = refl
kind-seen names c (kind.Send message to) = refl
kind-seen names c (kind.Take message) = refl
kind-seen names c (kind.Note term) = refl
kind-seen names c kind.End = refl

events-seen : (names : List Name) (c : Contents) (es : List Event) → map (event_of names c) es ≡ map (event_by names (λ at. apply (subst_of names c) (shows names c.cells at))) es
events-seen names c [] = refl
events-seen names c (e ∷ es) =
    ap (λ k. record { time = e.time; process = e.pid; kind = k } ∷ map (event_of names c) es) (kind-seen names c e.kind)
    ∙ ap (λ more. event_by names (λ at. apply (subst_of names c) (shows names c.cells at)) e ∷ more) (events-seen names c es)

-- ---- processes

names-seen : (names : List Name) (p : Plain) (qs : List Proc) → map (λ q. q.name) (map (process_of names p) qs) ≡ process_names names (map (λ q. q.name) qs)
names-seen names p [] = refl
names-seen names p (q ∷ qs) = ap (λ more. name_at names q.name.at ∷ more) (names-seen names p qs)

-- the items of a process that runs don't change its name
running-named : (r : Option ℕ) (is : List Item) (ps : List Process) → map (λ (p : Process). p.name) (with_running r is ps) ≡ map (λ (p : Process). p.name) ps
running-named None is ps = refl
running-named (Some r) is ps = map-at_place (λ (p : Process). p.name) (λ (p : Process). record p { items = is }) (λ p. refl) r ps

all-named : (n : ℕ) (qs : List Proc) → AllByRecursion (λ q. q.name.at < n) qs → AllByRecursion (λ a. a.at < n) (map (λ q. q.name) qs)
all-named n [] h = tt
all-named n (q ∷ qs) h = (h.0, all-named n qs h.1)

-- the names of an engine's processes
abbrev pub AreProcesses : Snapshot → List AtomId → Type 0
AreProcesses s processes = processes ≡ map (λ q. q.name) s.plain.procs

pub processes-named : (s : Snapshot) (table : List Name) (processes : List AtomId) → IsSound s → table ≡ s.names → AreProcesses s processes → AllByRecursion (λ a. a.at < length table) processes
processes-named s table processes sound t same =
    subst (λ n. AllByRecursion (λ a. a.at < n) processes) (ap length (sym t))
    (subst (AllByRecursion (λ a. a.at < length s.names)) (sym same) (all-named (length s.names) s.plain.procs sound.procs))

-- ---- what a report needs

pub events-stand : (s : Snapshot) (table : List Name) (cells : List Cell) (processes : List AtomId) (events : List Event) → IsSound s → table ≡ s.names → cells ≡ s.plain.store.cells → AreProcesses s processes → events ≡ s.plain.events → AllByRecursion (EventStands (length table) (length cells) (length processes)) events
events-stand s table cells processes events sound t ce same ev =
    let many : length s.plain.procs ≡ length processes = sym (ap length same ∙ length-map s.plain.procs (λ (q : Proc). q.name)) in
    subst (λ n. AllByRecursion (EventStands n (length cells) (length processes)) events) (ap length (sym t))
    (subst (λ n. AllByRecursion (EventStands (length s.names) n (length processes)) events) (ap length (sym ce))
    (subst (λ n. AllByRecursion (EventStands (length s.names) (length s.plain.store.cells) n) events) many
    (subst (AllByRecursion (EventStands (length s.names) (length s.plain.store.cells) (length s.plain.procs))) (sym ev)
    sound.events)))

-- the world of an engine is what its cells and bindings stand for
pub stands-for : (s : Snapshot) (processes : List AtomId) (ops : Entries) → IsSound s → AreProcesses s processes → StandsFor (in_scene s.names s.plain.store.pairs s.plain.store.cells processes ops) s.plain.events s.plain.clock (world_in s)
stands-for s processes ops sound same = record {
  bound = λ v place e. value-bound s.names s.plain.store v place sound.store e;
  unbound = λ v e. value-unbound s.names s.plain.store v sound.store e;
  history = events-seen s.names s.plain.store s.plain.events;
  named =
      running-named s.plain.running (items_of s.names s.plain s.plain.items) (map (process_of s.names s.plain) s.plain.procs)
      ∙ names-seen s.names s.plain s.plain.procs ∙ ap (process_names s.names) (sym same);
  time = refl;
}

-- the lines of an answer are those of the engine's world
pub answer-shown : (s : Snapshot) (ops : Entries) (table : List Name) (store : Contents) (cells : List Cell) (processes : List AtomId) (events : List Event) (clock : ℤ) (number steps : ℕ) (named : List Named) (lines : List ℕ) → IsSound s → table ≡ s.names → store ≡ s.plain.store → cells ≡ s.plain.store.cells → AreProcesses s processes → events ≡ s.plain.events → clock ≡ s.plain.clock → number ≡ s.number → steps ≡ s.steps → named ≡ s.named → ops ≡ s.ops → ((w : World) → StandsFor (in_scene table store.pairs cells processes ops) events clock w → lines ≡ world_answer_text (table_of ops) named number w steps) → lines ≡ lines_of (answer_in s)
answer-shown s ops table store cells processes events clock number steps named lines sound t st ce same ev cl nu sp na op told =
    let w = world_in s in
    told w
    (subst (λ x. StandsFor (in_scene x store.pairs cells processes ops) events clock w) (sym t)
    (subst (λ (x : Contents). StandsFor (in_scene s.names x.pairs cells processes ops) events clock w) (sym st)
    (subst (λ x. StandsFor (in_scene s.names s.plain.store.pairs x processes ops) events clock w) (sym ce)
    (subst (λ x. StandsFor (in_scene s.names s.plain.store.pairs s.plain.store.cells processes ops) x clock w) (sym ev)
    (subst (λ x. StandsFor (in_scene s.names s.plain.store.pairs s.plain.store.cells processes ops) s.plain.events x w) (sym cl)
    (stands-for s processes ops sound same))))))
    ∙ ap (λ x. world_answer_text (table_of x) named number w steps) op
    ∙ ap (λ x. world_answer_text (table_of s.ops) x number w steps) na
    ∙ ap (λ x. world_answer_text (table_of s.ops) s.named x w steps) nu
    ∙ ap (λ x. world_answer_text (table_of s.ops) s.named s.number w x) sp

-- ---- the names of processes, one after the other

pub first-names : (qs : List Proc) (at : ℕ) (names more : List AtomId) (name : AtomId) → names ≡ take at (map (λ q. q.name) qs) → slice_get (map (λ q. q.name) qs) at ≡ Some name → more ≡ names ++ name ∷ [] → more ≡ take (at + 1) (map (λ q. q.name) qs)
first-names qs at names more name e here m =
    let ns = map (λ (q : Proc). q.name) qs in
    m ∙ ap (λ l. l ++ name ∷ []) e
    ∙ ap (λ n. take at ns ++ n ∷ []) (sym (get_or_from_slice_get ns at name name here))
    ∙ sym (take-suc ns at name (slice_get_within ns at name here))
    ∙ ap (λ n. take n ns) (sym (add-one at))

pub all-names : (qs : List Proc) (n : ℕ) (names : List AtomId) → names ≡ take n (map (λ q. q.name) qs) → length qs ≤ n → names ≡ map (λ q. q.name) qs
all-names qs n names e le = e ∙ take_all n (map (λ (q : Proc). q.name) qs) (omega (arith, length-map qs (λ (q : Proc). q.name)))

-- ---- the term of an error

pub error-written : (s : Snapshot) (ops : Entries) (names : List Name) (c : Contents) (cells : List Cell) (at : Ref) (begun new written : List ℕ) → IsSound s → names ≡ s.names → c ≡ s.plain.store → cells ≡ s.plain.store.cells → begun ≡ [] → ops ≡ s.ops → new ≡ chars begun ++ text (table_of ops) 1200 (under names c.pairs cells at.at) → written ≡ new → written ≡ text (table_of s.ops) 1200 (seen_in s at)
error-written s asked names c cells at begun new written sound n st ce none op more is =
    let ops = table_of s.ops in
    is ∙ more
    ∙ ap (λ x. chars begun ++ text (table_of x) 1200 (under names c.pairs cells at.at)) op
    ∙ ap (λ b. chars b ++ text ops 1200 (under names c.pairs cells at.at)) none
    ∙ ap (λ b. b ++ text ops 1200 (under names c.pairs cells at.at)) chars-nil
    ∙ ap (λ x. text ops 1200 (under x c.pairs cells at.at)) n
    ∙ ap (λ (x : Contents). text ops 1200 (under s.names x.pairs cells at.at)) st
    ∙ ap (λ x. text ops 1200 (under s.names s.plain.store.pairs x at.at)) ce
    ∙ ap (text ops 1200) (under-seen s.names s.plain.store sound.store sound.fits at.at)
