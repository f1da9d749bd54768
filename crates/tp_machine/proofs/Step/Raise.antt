-- Steps that raise an error.
use Rattle.std.proofs.Common.{◌≡◌, ℕ, ◌<◌, ◌≤◌, List, [], map, length, Some, None, slice_get, ℤ, refl, ap, sym, subst, ◌∙◌, arith, length-append}
use Rattle.std.proofs.lemmas.Option.{slice_get-map}
use Rattle.std.specs.Option.{option_map}
use Rattle.tp_terms.specs.declared.cells.Ref.{Ref}
use Rattle.tp_terms.specs.declared.cells.AtomId.{AtomId}
use Rattle.tp_terms.specs.declared.world.Proc.{Proc}
use Rattle.tp_terms.specs.Term.{Name, Var, Int}
use Rattle.tp_terms.specs.Names.{IsTable}
use Rattle.tp_terms.specs.Shown.{name_at, shows, AreNamed}
use Rattle.tp_meaning.specs.Subst.{apply}
use Rattle.tp_meaning.specs.Checks.{error}
use Rattle.tp_meaning.specs.World as world
use Rattle.tp_meaning.specs.Turn.{raised_at}
use Rattle.tp_meaning.specs.Search as search
use Rattle.tp_meaning.specs.Step.{step, goal_step}
use Rattle.tp_meaning.proofs.ValidWorlds.Places.{get-at_place}
use Rattle.tp_store.specs.Contents.{subst_of, seen}
use Rattle.tp_machine.specs.declared.errors.Cause.{Cause}
use Rattle.tp_machine.specs.declared.errors.Cause.TheVariants as cause
use Rattle.tp_machine.specs.declared.machine.Machine.{Machine}
use Rattle.tp_state.specs.declared.state.State.{State}
use Rattle.tp_machine.specs.declared.stepped.Stepped.TheVariants as answer
use Rattle.tp_machine.specs.declared.task.Task.{Task}
use Rattle.std.proofs.lemmas.List.{append-nil}
use Rattle.tp_state.specs.Acts.{with_store}
use Rattle.tp_state.specs.Going as going
use Rattle.tp_state.specs.State.{plain_of, held_of}
use Rattle.tp_state.proofs.GoingBack.Bindings.{store-follows}
use Rattle.tp_state.specs.Plain.{Plain, items_of, process_of, with_running, world_of}
use Rattle.tp_state.specs.Stands.{PlainStands}
use Rattle.tp_machine.specs.Built.{Built}
use Rattle.tp_machine.specs.Causes.{kind_term, kind_seen, CauseStands}
use Rattle.tp_machine.specs.Machine.{IsMachine, Steps, base_in, world_in}
use Rattle.tp_machine.specs.Meets.{Meets, IsCause, its_turn}
use Rattle.tp_machine.proofs.Worlds.Stores.{OtherStore, store-stands, same-world}
use Rattle.tp_machine.proofs.Worlds.Procs.{all-get}
use Rattle.tp_machine.proofs.Step.First.{process_there, there, goal-gives}
use Rattle.tp_machine.proofs.Step.Parts.{to_raise}

module _ (m : Machine) (t : Task) (is : IsMachine m) (h : Meets m t) where
  -- the name of the running process
  pub name-is : (q : Proc) → slice_get m.state.procs t.process ≡ Some q → world.name_at (world_in m).processes t.process ≡ name_at m.atoms q.name.at
  name-is q e =
      let is = items_of m.atoms (plain_of m.state) m.state.items in
      let rows = map (process_of m.atoms (plain_of m.state)) m.state.procs in
      ap (λ o. world.name_at (with_running o is rows) t.process) h.running
      ∙ ap (λ o. elim o as (λ _. Name) [ None ↦ [] | Some x ↦ x.name ])
      (get-at_place (λ (x : world.Process). record x { items = is }) t.process rows
      ∙ ap (option_map (λ (x : world.Process). record x { items = is })) (slice_get-map (process_of m.atoms (plain_of m.state)) m.state.procs t.process ∙ ap (option_map (process_of m.atoms (plain_of m.state))) e))

  pub name_stands : (q : Proc) → slice_get m.state.procs t.process ≡ Some q → q.name.at < length m.atoms
  name_stands q e = (all-get _ m.state.procs t.process q e is.stands.procs).name

  -- a goal that raises
  raises-by : (why : Cause) → IsCause m t why → step (base_in m) (world_in m) ≡ search.Raise (error (kind_seen m.atoms m.state.store why) (world.name_at (world_in m).processes t.process))
  raises-by why c = goal-gives m t h ∙ ap (raised_at (world_in m) t.process) c.gives

  pub raises : (s : State) (place : Ref) (why : Cause) (q : Proc) → IsCause m t why → slice_get m.state.procs t.process ≡ Some q → plain_of s ≡ record (plain_of m.state) { store = s.store } → held_of s ≡ record { plain = with_store s.store (plain_of m.state); log = m.state.log; rooms = (held_of m.state).rooms }
      → Built m.atoms m.state.store s.store place.at (error (kind_term m.atoms m.state.store.cells why) (name_at m.atoms q.name.at)) → Steps m (record m { state = s }) (answer.Raised place)
  raises s place why q c e same held b =
      let names = m.atoms in
      let u = b.keeps.bindings names in
      let name = name_at names q.name.at in
      let longer : length m.state.store.cells ≤ length s.store.cells = omega (arith, ap length b.adds.cells, length-append m.state.store.cells b.adds.more) in
      let other : OtherStore names (λ x. x) m.state.store s.store = record {
        store = b.store;
        atoms = b.named;
        longer = longer;
        terms = λ at lt. ap (λ v. apply v (shows names s.store.cells at)) u ∙ ap (apply (subst_of names m.state.store)) (b.keeps.terms names at lt);
      } in
      let f : going.Follows (held_of m.state) (held_of s) = subst (going.Follows (held_of m.state)) (sym held) (store-follows (held_of m.state) s.store m.state.log (record {
        more_cells = b.adds.more;
        more = [];
        cells = b.adds.cells;
        pairs = b.adds.pairs;
        vars = omega (arith, b.adds.vars);
        log = sym (append-nil m.state.log);
      })) in
      to_raise m (record m { state = s }) place (error (kind_seen names m.state.store why) name) is refl
      (subst (PlainStands names) (sym same) (store-stands names (λ x. x) (plain_of m.state) s.store is.stands other)) f
      (ap (λ (x : Plain). world_of names x m.stamp) same ∙ same-world names (plain_of m.state) s.store m.stamp is.stands other u b.adds.vars)
      (ap (apply (subst_of names s.store)) b.shown ∙ ap (λ v. apply v (error (kind_term names m.state.store.cells why) name)) u)
      (omega (arith, b.last))
      (raises-by why c ∙ ap (λ n. search.Raise (error (kind_seen names m.state.store why) n)) (name-is q e))

  -- with the name of the running process, as it was looked up
  pub raises_with : (s : State) (place : Ref) (why : Cause) (process : AtomId) → IsCause m t why → ((q : Proc) → slice_get m.state.procs t.process ≡ Some q → process ≡ q.name)
      → ((names : List Name) → IsTable names → AreNamed (length names) m.state.store.cells → CauseStands names why → process.at < length names → Built names m.state.store s.store place.at (error (kind_term names m.state.store.cells why) (name_at names process.at)))
      → plain_of s ≡ record (plain_of m.state) { store = s.store } → held_of s ≡ record { plain = with_store s.store (plain_of m.state); log = m.state.log; rooms = (held_of m.state).rooms } → Steps m (record m { state = s }) (answer.Raised place)
  raises_with s place why process c named built same held =
      let q = there t.process m.state.procs (process_there m t.process h.standing h.running) in
      let e : process ≡ q.0.name = named q.0 q.1 in
      raises s place why q.0 c q.1 same held
      (subst (λ (a : AtomId). Built m.atoms m.state.store s.store place.at (error (kind_term m.atoms m.state.store.cells why) (name_at m.atoms a.at))) e
      (built m.atoms is.program.table is.stands.atoms c.stands (subst (λ (a : AtomId). a.at < length m.atoms) (sym e) (name_stands q.0 q.1))))

-- a variable and an integer as goals raise an error
pub unbound_cause : (m : Machine) (t : Task) → (v : ℕ) × (seen m.atoms m.state.store t.goal.at ≡ Var v) → IsCause m t cause.Unbound
unbound_cause m t h = record { culprit = tt; stands = tt; gives = ap (goal_step (base_in m) (its_turn m t) t.barrier) h.1 }

pub number_cause : (m : Machine) (t : Task) (value : ℤ) → seen m.atoms m.state.store t.goal.at ≡ Int value → IsCause m t (cause.Number value)
number_cause m t value e = record { culprit = tt; stands = tt; gives = ap (goal_step (base_in m) (its_turn m t) t.barrier) e }
