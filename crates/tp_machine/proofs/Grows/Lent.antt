-- The machine's terms stand in its view while a built-in runs.
use Rattle.std.proofs.Common.{◌≡◌, ℤ, ◌<◌, ◌^◌, List, ◌++◌, length, Some, Result, refl, ap, sym, subst, ◌∙◌, arith}
use Rattle.tp_terms.specs.Term.{Name}
use Rattle.tp_terms.specs.declared.cells.Ref.{Ref}
use Rattle.tp_terms.specs.Shown.{shows, AreNamed}
use Rattle.tp_terms.proofs.Places.Shown.{shows-append}
use Rattle.tp_meaning.specs.Heap as heap
use Rattle.tp_meaning.specs.Heap.{Heap, IsHeap, shown}
use Rattle.tp_meaning.specs.Trail.{Trail}
use Rattle.tp_meaning.specs.Arith.{evaluated, value}
use Rattle.tp_arith.specs.Values.{Evaluates}
use Rattle.tp_arith.specs.declared.raising.Raise.{Raise}
use Rattle.tp_meaning.specs.Builtin.{of_args}
use Rattle.tp_meaning.specs.declared.goals.BuiltId.{BuiltId}
use Rattle.tp_meaning.specs.declared.goals.GoalKind.TheVariants.{BuiltIn}
use Rattle.tp_store.specs.Contents.{IsStore}
use Rattle.tp_store.specs.Contents as store
use Rattle.tp_store.proofs.Substitution.Kept.{subst_of-append}
use Rattle.tp_build.specs.declared.outcome.Outcome.{Outcome}
use Rattle.tp_build.specs.Answers.{Does, HeapGrows, args_seen}
use Rattle.tp_build.specs.Families.{HasArguments, argument_count}
use Rattle.tp_view.specs.declared.view.View.{View}
use Rattle.tp_view.specs.Seen.{heap_of}
use Rattle.tp_view.proofs.Heaps.{is-heap}
use Rattle.tp_machine.specs.declared.machine.Machine.{Machine}
use Rattle.tp_machine.specs.declared.task.Task.{Task}
use Rattle.tp_machine.specs.declared.task.Call.{Call}
use Rattle.tp_machine.specs.BuiltIns.{Grew, Ran, heap_in, swapped, with_terms}
use Rattle.tp_machine.specs.Machine.{IsMachine}
use Rattle.tp_machine.specs.Meets.{Calls}
use Rattle.tp_build.proofs.RowAnswers.Counts.{count-fits}

-- what a view is as a heap
abbrev pub lent : View → Heap
lent v = heap_of v.store v.log v.atoms

-- ---- the terms come back

module _ (m s new : Machine) (v : View) (e : s ≡ swapped m) (e' : new ≡ swapped (record s { view = v })) where
  both : new ≡ swapped (record (swapped m) { view = v })
  both = e' ∙ ap (λ (q : Machine). swapped (record q { view = v })) e

  comes_back : new ≡ with_terms new m
  comes_back = subst (λ (q : Machine). q ≡ with_terms q m) (sym both) refl

  heap_back : heap_in new ≡ lent v
  heap_back = ap heap_in both

  lent_is : lent s.view ≡ heap_in m
  lent_is = ap (λ (q : Machine). lent q.view) e

  grows_back : HeapGrows (lent s.view) (lent v) → HeapGrows (heap_in m) (heap_in new)
  grows_back g = subst (λ k. HeapGrows (heap_in m) k) (sym heap_back) (subst (λ k. HeapGrows k (lent v)) lent_is g)

  adds_back : heap.AddsCells (lent s.view) (lent v) → heap.AddsCells (heap_in m) (heap_in new)
  adds_back a = subst (λ k. heap.AddsCells (heap_in m) k) (sym heap_back) (subst (λ k. heap.AddsCells k (lent v)) lent_is a)

  -- where only cells were added, the machine's store alone grew
  pub grew : IsMachine m → heap.AddsCells (lent s.view) (lent v) → IsHeap (lent v) → IsStore new.state.store → Grew m new
  grew is a h st =
      let b = adds_back a in
      let cells : new.state.store.cells ≡ m.state.store.cells ++ b.more = b.cells in
      let pairs : new.state.store.pairs ≡ m.state.store.pairs = ap (λ (x : Trail). x.pairs) b.trail in
      let log : new.state.log ≡ m.state.log = ap (λ (x : Trail). x.log) b.trail in
      let names : new.atoms ≡ m.atoms = b.names in
      let heap_is : IsHeap (heap_in new) = subst IsHeap (sym heap_back) h in
      record {
        same =
            comes_back
            ∙ ap (λ ns. record m { atoms = ns; state = record m.state { store = new.state.store; log = new.state.log } }) names
            ∙ ap (λ l. record m { state = record m.state { store = new.state.store; log = l } }) log;
        adds = record { more = b.more; cells = cells; pairs = pairs; vars = b.next };
        keeps = record {
          terms = λ ns at lt. ap (λ cs. shows ns cs at) cells ∙ shows-append ns m.state.store.cells b.more at lt;
          bindings = λ ns.
              ap (λ cs. store.chained ns cs new.state.store.pairs) cells
              ∙ ap (store.chained ns (m.state.store.cells ++ b.more)) pairs
              ∙ subst_of-append ns m.state.store b.more is.stands.store;
        };
        store = st;
        named = subst (λ (ns : List Name). AreNamed (length ns) new.state.store.cells) names heap_is.named;
      }

module _ (m : Machine) (is : IsMachine m) where
  heap_is : IsHeap (heap_in m)
  heap_is = is-heap m.state.store m.state.log m.atoms is.stands.store is.program.table is.stands.atoms

  -- what evaluates and builds terms may run there
  pub may_run : (s : Machine) → s ≡ swapped m → IsHeap (lent s.view)
  may_run s e = subst (λ (q : Machine). IsHeap (lent q.view)) (sym e) heap_is

  -- a place is one of the view's
  pub place_there : (s : Machine) (place : Ref) → s ≡ swapped m → place.at < length m.state.store.cells → place.at < length s.view.store.cells
  place_there s place e lt = subst (λ (q : Machine). place.at < length q.view.store.cells) (sym e) lt

  -- the value there is the machine's
  pub value_back : (s new : Machine) (v : View) (place : Ref) (r : Result ℤ Raise) → s ≡ swapped m → new ≡ swapped (record s { view = v })
      → Evaluates (lent v) (value (lent s.view).subst (shown (lent s.view) place.at)) r → Evaluates (heap_in new) (evaluated (store.seen m.atoms m.state.store place.at)) r
  value_back s new v place r e e' h =
      subst (λ k. Evaluates k (evaluated (store.seen m.atoms m.state.store place.at)) r) (sym (heap_back m s new v e e'))
      (subst (λ k. Evaluates (lent v) (value k.subst (shown k place.at)) r) (lent_is m s new v e e') h)

-- ---- built-ins

module _ (m : Machine) (t : Task) (c : Call) (id : BuiltId) (is : IsMachine m) (h : Calls m t c (Some (BuiltIn id))) where
  count_is : c.count ≡ argument_count id
  count_is = sym (count-fits _ c.count id h.kind)

  -- its arguments stand there
  pub has_arguments : (s : Machine) → s ≡ swapped m → length m.state.store.cells < 2 ^ 64 → HasArguments (lent s.view) id c.first
  has_arguments s e few = subst (λ (q : Machine). HasArguments (lent q.view) id c.first) (sym e) (record {
    stand = omega (arith, h.call.within, count_is);
    places = omega (arith, h.call.within, count_is, few);
  })

  -- what was answered there is answered by the machine
  pub ran : (s new : Machine) (v : View) (o : Outcome) → s ≡ swapped m → new ≡ swapped (record s { view = v })
      → Does (lent s.view) (lent v) (of_args id (lent s.view).subst (lent s.view).next (args_seen (lent s.view) c.first.at (argument_count id))) o → HeapGrows (lent s.view) (lent v) → IsHeap (lent v) → IsStore new.state.store → Ran m new t c id o
  ran s new v o e e' d g k st = record {
    machine = is;
    calls = h;
    same = comes_back m s new v e e';
    does = subst (λ n. Does (heap_in m) (heap_in new) (of_args id (heap_in m).subst (heap_in m).next (store.args_seen m.atoms m.state.store c.first.at n)) o) (sym count_is)
        (subst (λ k. Does (heap_in m) k (of_args id (heap_in m).subst (heap_in m).next (args_seen (heap_in m) c.first.at (argument_count id))) o) (sym (heap_back m s new v e e'))
        (subst (λ k. Does k (lent v) (of_args id k.subst k.next (args_seen k c.first.at (argument_count id))) o) (lent_is m s new v e e') d));
    grows = grows_back m s new v e e' g;
    heap = subst IsHeap (sym (heap_back m s new v e e')) k;
    store = st;
  }
