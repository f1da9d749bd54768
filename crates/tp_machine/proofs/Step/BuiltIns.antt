-- Steps of built-in goals.
use Rattle.std.proofs.Common.{◌≡◌, ◌+◌, ◌<◌, ◌≤◌, List, [], ◌++◌, take, length, Some, slice_get, Ok, Err, refl, ap, sym, subst, ◌∙◌, arith, length-append, append_assoc, append-nil}
use Rattle.std.proofs.Math.Seq.{take-append_seam}
use Rattle.tp_terms.specs.declared.cells.Ref.{Ref}
use Rattle.tp_terms.specs.declared.cells.Cell.{Cell}
use Rattle.tp_terms.specs.declared.cells.AtomId.{AtomId}
use Rattle.tp_terms.specs.declared.world.StoreMark.{StoreMark}
use Rattle.tp_terms.specs.declared.world.Proc.{Proc}
use Rattle.tp_terms.specs.Term.{Name}
use Rattle.tp_terms.specs.Names.{IsTable}
use Rattle.tp_terms.specs.Binds.{Bindings}
use Rattle.tp_terms.specs.Shown.{name_at, shows, AreNamed}
use Rattle.tp_terms.proofs.Naming.Tables.{Grows-name_at, Grows-length}
use Rattle.tp_terms.proofs.Places.Shown.{shows-append}
use Rattle.tp_meaning.specs.declared.DeadCause.TheVariants.{Failed}
use Rattle.tp_meaning.specs.declared.goals.BuiltId.{BuiltId}
use Rattle.tp_meaning.specs.declared.goals.GoalKind.TheVariants.{BuiltIn}
use Rattle.tp_meaning.specs.Subst.{apply}
use Rattle.tp_meaning.specs.Checks.{Checked, ◌>>=◌, error}
use Rattle.tp_meaning.specs.Answers.{Answer, Yes, No}
use Rattle.tp_meaning.specs.Builtin.{of_args}
use Rattle.tp_meaning.specs.Trail.{bindings_logged}
use Rattle.tp_meaning.specs.World as world
use Rattle.tp_meaning.specs.World.{world_under}
use Rattle.tp_meaning.specs.Turn.{going, one, raised_at}
use Rattle.tp_meaning.specs.Step.{answered, step, searched}
use Rattle.tp_meaning.specs.Machine as machine
use Rattle.tp_meaning.specs.Machine.{stepped, stepped_by}
use Rattle.tp_store.specs.Contents.{Contents, IsStore, CanGoBack, cut_to_mark, seen, subst_of, args_seen, chained}
use Rattle.tp_store.proofs.Standing.Facts.{can-go-back}
use Rattle.tp_store.proofs.Substitution.Kept.{subst_of-append}
use Rattle.tp_state.specs.declared.state.State.{State}
use Rattle.tp_state.specs.Acts.{resting}
use Rattle.tp_state.specs.Going as going
use Rattle.tp_state.specs.State.{plain_of, held_of}
use Rattle.tp_state.specs.Plain.{Plain, world_of}
use Rattle.tp_state.specs.Stands.{PlainStands}
use Rattle.tp_state.proofs.GoingBack.Bindings.{store-follows}
use Rattle.tp_state.proofs.GoingBack.Follows.{follows-same}
use Rattle.tp_build.specs.declared.outcome.Outcome.{Outcome}
use Rattle.tp_build.specs.declared.outcome.Outcome.TheVariants as outcome
use Rattle.tp_build.specs.Answers.{Does}
use Rattle.tp_view.proofs.Grown.{seen-over, none-bound}
use Rattle.tp_machine.specs.declared.machine.Machine.{Machine}
use Rattle.tp_machine.specs.declared.stepped.Stepped.TheVariants as answer
use Rattle.tp_machine.specs.declared.task.Task.{Task}
use Rattle.tp_machine.specs.declared.task.Call.{Call}
use Rattle.tp_machine.specs.Built.{Built}
use Rattle.tp_machine.specs.BuiltIns.{Ran, heap_in}
use Rattle.tp_machine.specs.Machine.{Steps, base_in, world_in, choices_in}
use Rattle.tp_machine.proofs.Worlds.Items.{other-rest, other-stands, other-world}
use Rattle.tp_machine.proofs.Worlds.Names.{subst-later, world-later, stands-later}
use Rattle.tp_machine.proofs.Worlds.Stores.{OtherStore, store-stands, same-world, under-world}
use Rattle.tp_machine.proofs.Step.First.{process_there, there, call-gives, rest_in, turn_in}
use Rattle.tp_machine.proofs.Step.Parts.{state_is, steps, to_one}
use Rattle.tp_machine.proofs.Step.Raise.{name-is, name_stands}

module _ (m new : Machine) (t : Task) (c : Call) (id : BuiltId) (o : Outcome) (r : Ran m new t c id o) where
  abbrev n0 : List Name
  n0 = m.atoms

  abbrev n1 : List Name
  n1 = new.atoms

  abbrev c0 : Contents
  c0 = m.state.store

  abbrev c1 : Contents
  c1 = new.state.store

  abbrev p : Plain
  p = plain_of m.state

  more : List Cell
  more = r.grows.more

  bound : Bindings
  bound = r.grows.trail.bound

  abbrev rested : Plain
  rested = resting t.rest (plain_of m.state)

  cells_are : new.state.store.cells ≡ m.state.store.cells ++ r.grows.more
  cells_are = r.grows.cells

  pairs_are : new.state.store.pairs ≡ r.grows.trail.bound ++ m.state.store.pairs
  pairs_are = r.grows.trail.pairs

  same_state : new.state ≡ record m.state { store = new.state.store; log = new.state.log }
  same_state = ap (λ (q : Machine). q.state) r.same

  grows_log : going.StoreGrows m.state.store new.state.store m.state.log new.state.log
  grows_log = record { more_cells = r.grows.more; more = r.grows.trail.bound; cells = cells_are; pairs = pairs_are; vars = r.grows.next; log = r.grows.trail.log }

  -- what the row gives, by what was answered
  abbrev does_by : (x : Outcome) → o ≡ x → Does (heap_in m) (heap_in new) (of_args id (subst_of m.atoms m.state.store) m.state.store.vars (args_seen m.atoms m.state.store c.first.at c.count)) x
  does_by x e = subst (Does (heap_in m) (heap_in new) (of_args id (subst_of m.atoms m.state.store) m.state.store.vars (args_seen m.atoms m.state.store c.first.at c.count))) e r.does

  -- where it failed or raised an error, nothing was bound
  pub unbound_by : o ≡ outcome.No → subst_of new.atoms new.state.store ≡ subst_of m.atoms m.state.store
  unbound_by e = (does_by outcome.No e).1

  module _ (kind : Ref) (e : o ≡ outcome.Raise kind) where
    pub within_by : kind.at < length new.state.store.cells
    within_by = (does_by (outcome.Raise kind) e).0

    pub unbound_too : subst_of new.atoms new.state.store ≡ subst_of m.atoms m.state.store
    unbound_too = (does_by (outcome.Raise kind) e).2

    -- and no number was taken
    pub claimed_by : new.state.store.vars ≡ m.state.store.vars
    claimed_by = (does_by (outcome.Raise kind) e).3

  -- the processes are the same
  pub procs_are : new.state.procs ≡ m.state.procs
  procs_are = ap (λ (q : Machine). q.state.procs) r.same

  -- what the step gives, by what the row gives
  gives_by : (a : Checked Answer) → of_args id (subst_of m.atoms m.state.store) m.state.store.vars (args_seen m.atoms m.state.store c.first.at c.count) ≡ a
      → step (base_in m) (world_in m) ≡ raised_at (world_in m) t.process (a >>= (λ x. Ok (answered (turn_in m t.process t.rest) x)))
  gives_by a e =
      call-gives m t c (Some (BuiltIn id)) r.calls
      ∙ ap (λ (a : Checked Answer). raised_at (world_in m) t.process (a >>= (λ x. Ok (answered (turn_in m t.process t.rest) x)))) e

  longer : length m.state.store.cells ≤ length new.state.store.cells
  longer = omega (arith, ap length cells_are, length-append m.state.store.cells r.grows.more)

  -- ---- it succeeds

  stands_rested : PlainStands m.atoms (resting t.rest (plain_of m.state))
  stands_rested = other-stands m.atoms p rested r.machine.stands (other-rest m.atoms p t.rest r.calls.meets.rest)

  later_rested : PlainStands new.atoms (resting t.rest (plain_of m.state))
  later_rested = stands-later n0 n1 r.grows.names rested stands_rested

  over : OtherStore new.atoms (apply (subst_of new.atoms new.state.store)) m.state.store new.state.store
  over = record {
    store = r.store;
    atoms = r.heap.named;
    longer = longer;
    terms = λ at lt.
        ap (apply (subst_of n1 c1)) (ap (λ cs. shows n1 cs at) cells_are ∙ shows-append n1 m.state.store.cells r.grows.more at lt)
        ∙ sym (seen-over n1 c0 c1 r.grows.more r.grows.trail.bound r.machine.stands.store r.store cells_are pairs_are (shows n1 m.state.store.cells at));
  }

  succeeded : State
  succeeded = record new.state { items = t.rest }

  plain_is : plain_of (record new.state { items = t.rest }) ≡ record (resting t.rest (plain_of m.state)) { store = new.state.store }
  plain_is = ap (λ (s : State). plain_of (record s { items = t.rest })) same_state

  world_is : world_of new.atoms (plain_of (record new.state { items = t.rest })) (m.stamp + 1) ≡ record (world_under (subst_of new.atoms new.state.store) (going (turn_in m t.process t.rest) (rest_in m t.rest))) { next = new.state.store.vars }
  world_is =
      ap (λ (x : Plain). world_of n1 x (m.stamp + 1)) plain_is
      ∙ under-world n1 rested c1 (m.stamp + 1) later_rested over
      ∙ ap (λ v. world_under (subst_of n1 c1) (record v { next = c1.vars }))
      (world-later n0 n1 r.grows.names rested stands_rested (m.stamp + 1) ∙ other-world n0 p rested t.process m.stamp r.machine.stands (other-rest n0 p t.rest r.calls.meets.rest) r.calls.meets.running)

  stamp_is : new.stamp ≡ m.stamp
  stamp_is = ap (λ (q : Machine). q.stamp) r.same

  follows_rested : going.Follows (held_of m.state) (held_of (record new.state { items = t.rest }))
  follows_rested =
      subst (λ (s : State). going.Follows (held_of m.state) (held_of (record s { items = t.rest }))) (sym same_state)
      (let f = store-follows (held_of m.state) c1 new.state.log grows_log in
      record { entries = f.entries; log = f.log; back = f.back; cells = f.cells; vars = f.vars; frames = f.frames; events = f.events; safe = f.safe })

  pub succeeds : o ≡ outcome.Yes → Steps m (record new { state = record new.state { items = t.rest }; stamp = new.stamp + 1 }) answer.Went
  succeeds e =
      let final : Machine = record new { state = record new.state { items = t.rest }; stamp = new.stamp + 1 } in
      let same_stamp : new.stamp + 1 ≡ m.stamp + 1 = ap (λ k. k + 1) stamp_is in
      to_one m final r.machine
      (record {
        same = ap (λ (q : Machine). record q { state = record new.state { items = t.rest }; stamp = new.stamp + 1 }) r.same;
        names = r.grows.names;
        table = r.heap.table;
        stands = subst (PlainStands n1) (sym plain_is) (store-stands n1 (apply (subst_of n1 c1)) rested c1 later_rested over);
        follows = follows_rested;
        stamp = same_stamp;
      })
      (gives_by (Ok (Yes (subst_of n1 c1) c1.vars)) (does_by outcome.Yes e)
      ∙ ap one (sym world_is) ∙ ap (λ k. one (world_of n1 (plain_of (record new.state { items = t.rest })) k)) (sym same_stamp))

  -- ---- nothing is bound

  module _ (unbound : subst_of new.atoms new.state.store ≡ subst_of m.atoms m.state.store) where
    none : r.grows.trail.bound ≡ []
    none = none-bound n1 c0 c1 r.grows.more r.grows.trail.bound r.machine.stands.store r.store cells_are pairs_are (unbound ∙ sym (subst-later n0 n1 r.grows.names c0 r.machine.stands.atoms))

    pairs_same : new.state.store.pairs ≡ m.state.store.pairs
    pairs_same = pairs_are ∙ ap (λ b. b ++ m.state.store.pairs) none

    log_same : new.state.log ≡ m.state.log
    log_same = r.grows.trail.log ∙ ap (λ b. m.state.log ++ bindings_logged b) none ∙ append-nil m.state.log

    later : PlainStands new.atoms (plain_of m.state)
    later = stands-later n0 n1 r.grows.names p r.machine.stands

    -- ---- it fails

    module _ (mark : StoreMark) (cells_marked : mark.cells ≡ length m.state.store.cells) (vars_marked : mark.vars ≡ m.state.store.vars) where
      cut_is : cut_to_mark new.state.store mark ≡ m.state.store
      cut_is =
          ap (λ k. record { cells = take k new.state.store.cells; pairs = new.state.store.pairs; vars = mark.vars }) cells_marked
          ∙ ap (λ cs. record { cells = take (length m.state.store.cells) cs; pairs = new.state.store.pairs; vars = mark.vars }) cells_are
          ∙ ap (λ cs. record { cells = cs; pairs = new.state.store.pairs; vars = mark.vars }) (take-append_seam m.state.store.cells r.grows.more)
          ∙ ap (λ ps. record { cells = m.state.store.cells; pairs = ps; vars = mark.vars }) pairs_same
          ∙ ap (λ v. record { cells = m.state.store.cells; pairs = m.state.store.pairs; vars = v }) vars_marked

      pub may_go_back : CanGoBack new.state.store mark
      may_go_back = can-go-back c1 mark (omega (arith, cells_marked, longer)) (let v = r.grows.next in omega (arith, vars_marked)) (subst IsStore (sym cut_is) r.machine.stands.store)

      back_is : record new.state { store = cut_to_mark new.state.store mark } ≡ m.state
      back_is =
          ap (λ (s : State). record s { store = cut_to_mark new.state.store mark }) same_state
          ∙ ap (λ d. record m.state { store = d; log = new.state.log }) cut_is
          ∙ ap (λ l. record m.state { log = l }) log_same

      pub fails : o ≡ outcome.No → Steps m (record new { state = record new.state { store = cut_to_mark new.state.store mark } }) (answer.Dead Failed)
      fails e =
          let final : Machine = record new { state = record new.state { store = cut_to_mark new.state.store mark } } in
          let same : final ≡ record m { atoms = new.atoms } =
          ap (λ (s : State). record new { state = s }) back_is ∙ ap (λ (q : Machine). record q { state = m.state }) r.same in
          let does = does_by outcome.No e in
          subst (λ (q : Machine). Steps m q (answer.Dead Failed)) (sym same)
          (steps m (record m { atoms = new.atoms }) (answer.Dead Failed) (record {
            is = r.machine;
            waiting = r.machine.going;
            base = refl;
            goal = refl;
            names = r.grows.names;
            table = r.heap.table;
            stands = later;
            acts = follows-same (held_of m.state);
            choices = r.machine.choices;
            bound = omega arith;
            place = tt;
            step =
                ap (λ v. (machine.Dead Failed, record { world = v; choices = choices_in m })) (world-later n0 n1 r.grows.names p r.machine.stands m.stamp)
                ∙ sym (ap (stepped (searched (base_in m))) (state_is m r.machine.going) ∙ ap (λ s. stepped_by (searched (base_in m)) s (record { world = world_in m; choices = choices_in m })) (gives_by (Ok No) does.0));
          }))

    -- ---- it raises

    module _ (claimed : new.state.store.vars ≡ m.state.store.vars) (kind : Ref) (within : kind.at < length new.state.store.cells) (d : Contents) (place : Ref) (process : AtomId) where
      module _ (b : Built new.atoms new.state.store d place.at (error (shows new.atoms new.state.store.cells kind.at) (name_at new.atoms process.at))) where
        d_cells : d.cells ≡ m.state.store.cells ++ (r.grows.more ++ b.adds.more)
        d_cells = b.adds.cells ∙ ap (λ cs. cs ++ b.adds.more) cells_are ∙ append_assoc m.state.store.cells r.grows.more b.adds.more

        d_pairs : d.pairs ≡ m.state.store.pairs
        d_pairs = b.adds.pairs ∙ pairs_same

        d_vars : d.vars ≡ m.state.store.vars
        d_vars = b.adds.vars ∙ claimed

        d_subst : subst_of new.atoms d ≡ subst_of new.atoms m.state.store
        d_subst =
            ap (λ cs. chained n1 cs d.pairs) d_cells ∙ ap (λ ps. chained n1 (m.state.store.cells ++ (r.grows.more ++ b.adds.more)) ps) d_pairs
            ∙ subst_of-append n1 c0 (r.grows.more ++ b.adds.more) r.machine.stands.store

        other : OtherStore new.atoms (λ x. x) m.state.store d
        other = record {
          store = b.store;
          atoms = b.named;
          longer = omega (arith, ap length d_cells, length-append m.state.store.cells (r.grows.more ++ b.adds.more));
          terms = λ at lt.
              ap (λ s. apply s (shows n1 d.cells at)) d_subst
              ∙ ap (apply (subst_of n1 c0)) (ap (λ cs. shows n1 cs at) d_cells ∙ shows-append n1 m.state.store.cells (r.grows.more ++ b.adds.more) at lt);
        }

        built_state : record new.state { store = d } ≡ record m.state { store = d }
        built_state = ap (λ (s : State). record s { store = d }) same_state ∙ ap (λ l. record m.state { store = d; log = l }) log_same

        follows_built : going.Follows (held_of m.state) (held_of (record new.state { store = d }))
        follows_built =
            subst (λ (s : State). going.Follows (held_of m.state) (held_of s)) (sym built_state)
            (store-follows (held_of m.state) d m.state.log (record {
              more_cells = r.grows.more ++ b.adds.more;
              more = [];
              cells = d_cells;
              pairs = d_pairs;
              vars = omega (arith, d_vars);
              log = sym (append-nil m.state.log);
            }))

        world_built : world_of new.atoms (plain_of (record new.state { store = d })) m.stamp ≡ world_in m
        world_built =
            ap (λ (s : State). world_of n1 (plain_of s) m.stamp) built_state
            ∙ same-world n1 p d m.stamp later other d_subst d_vars
            ∙ world-later n0 n1 r.grows.names p r.machine.stands m.stamp

        shown : seen new.atoms d place.at ≡ error (seen new.atoms new.state.store kind.at) (name_at new.atoms process.at)
        shown =
            ap (apply (subst_of n1 d)) b.shown
            ∙ ap (λ s. apply s (error (shows n1 new.state.store.cells kind.at) (name_at n1 process.at))) (b.keeps.bindings n1)

        raises : (q : Proc) → slice_get m.state.procs t.process ≡ Some q → process ≡ q.name → o ≡ outcome.Raise kind → Steps m (record new { state = record new.state { store = d } }) (answer.Raised place)
        raises q found is e =
            let final : Machine = record new { state = record new.state { store = d } } in
            let same : final ≡ record m { atoms = new.atoms; state = record new.state { store = d } } = ap (λ (x : Machine). record x { state = record new.state { store = d } }) r.same in
            let does = does_by (outcome.Raise kind) e in
            let named : name_at new.atoms process.at ≡ world.name_at (world_in m).processes t.process =
            ap (λ (a : AtomId). name_at n1 a.at) is ∙ Grows-name_at n0 n1 r.grows.names q.name.at (name_stands m t r.machine r.calls.meets q found) ∙ sym (name-is m t r.machine r.calls.meets q found) in
            subst (λ (x : Machine). Steps m x (answer.Raised place)) (sym same)
            (steps m (record m { atoms = new.atoms; state = record new.state { store = d } }) (answer.Raised place) (record {
              is = r.machine;
              waiting = r.machine.going;
              base = refl;
              goal = refl;
              names = r.grows.names;
              table = r.heap.table;
              stands = subst (λ (s : State). PlainStands n1 (plain_of s)) (sym built_state) (store-stands n1 (λ x. x) p d later other);
              acts = follows_built;
              choices = r.machine.choices;
              bound = omega arith;
              place = omega (arith, b.last);
              step =
                  ap (λ x. (machine.Raised x, record { world = world_of n1 (plain_of (record new.state { store = d })) m.stamp; choices = choices_in m })) (shown ∙ ap (error (seen n1 c1 kind.at)) named)
                  ∙ ap (λ v. (machine.Raised (error (seen n1 c1 kind.at) (world.name_at (world_in m).processes t.process)), record { world = v; choices = choices_in m })) world_built
                  ∙ sym (ap (stepped (searched (base_in m))) (state_is m r.machine.going) ∙ ap (λ s. stepped_by (searched (base_in m)) s (record { world = world_in m; choices = choices_in m })) (gives_by (Err (seen n1 c1 kind.at)) does.1));
            }))

      -- with the name of the running process, as it was looked up
      pub raises_with : ((q : Proc) → slice_get m.state.procs t.process ≡ Some q → process ≡ q.name)
          → ((names : List Name) → IsTable names → AreNamed (length names) new.state.store.cells → process.at < length names → Built names new.state.store d place.at (error (shows names new.state.store.cells kind.at) (name_at names process.at)))
          → o ≡ outcome.Raise kind → Steps m (record new { state = record new.state { store = d } }) (answer.Raised place)
      raises_with named built e =
          let q = there t.process m.state.procs (process_there m t.process r.calls.meets.standing r.calls.meets.running) in
          let is : process ≡ q.0.name = named q.0 q.1 in
          let below : process.at < length m.atoms = subst (λ (a : AtomId). a.at < length m.atoms) (sym is) (name_stands m t r.machine r.calls.meets q.0 q.1) in
          raises (built n1 r.heap.table r.heap.named (omega (arith, below, Grows-length n0 n1 r.grows.names))) q.0 q.1 is e
