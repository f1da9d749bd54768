-- Built-in goals on the machine's terms.
use Rattle.std.specs.Prelude.{◌≡◌, Some, length}
use Rattle.tp_meaning.specs.Heap.{Heap, IsHeap}
use Rattle.tp_meaning.specs.Builtin.{of_args}
use Rattle.tp_meaning.specs.declared.goals.BuiltId.{BuiltId}
use Rattle.tp_meaning.specs.declared.goals.GoalKind.TheVariants.{BuiltIn}
use Rattle.tp_terms.specs.Shown.{AreNamed}
use Rattle.tp_store.specs.Contents.{AddsCells, IsStore, Keeps, args_seen}
use Rattle.tp_build.specs.declared.outcome.Outcome.{Outcome}
use Rattle.tp_build.specs.Answers.{Does, HeapGrows}
use Rattle.tp_view.specs.Seen.{heap_of}
use Rattle.tp_machine.specs.declared.machine.Machine.{Machine}
use Rattle.tp_machine.specs.declared.task.Task.{Task}
use Rattle.tp_machine.specs.declared.task.Call.{Call}
use Rattle.tp_machine.specs.Machine.{IsMachine}
use Rattle.tp_machine.specs.Meets.{Calls}

-- the machine's terms, bindings and names
abbrev pub heap_in : Machine → Heap
heap_in m = heap_of m.state.store m.state.log m.atoms

-- terms and names of a machine have changed places with those of its view
abbrev pub swapped : Machine → Machine
swapped m = record m {
  atoms = m.view.atoms;
  state = record m.state { store = m.view.store; log = m.view.log };
  view = record m.view { store = m.state.store; log = m.state.log; atoms = m.atoms };
}

-- a machine with the terms, log and names of another
abbrev pub with_terms : Machine → Machine → Machine
with_terms new m = record m {
  atoms = new.atoms;
  state = record m.state { store = new.state.store; log = new.state.log };
}

-- A built-in ran, on the arguments of the running process's goal: what it answers is its row's, and
-- nothing but terms, log and names was changed.
pub record Ran (old new : Machine) (t : Task) (c : Call) (id : BuiltId)
    (outcome : Outcome) : Type 0 where
  pub machine : IsMachine old
  pub calls : Calls old t c (Some (BuiltIn id))
  pub same : new ≡ with_terms new old
  pub does : Does (heap_in old) (heap_in new)
      (of_args id (heap_in old).subst (heap_in old).next
      (args_seen old.atoms old.state.store c.first.at c.count)) outcome
  pub grows : HeapGrows (heap_in old) (heap_in new)
  pub heap : IsHeap (heap_in new)
  pub store : IsStore new.state.store

-- cells were added to the machine's store, and nothing else was changed
pub record Grew (old new : Machine) : Type 0 where
  pub same : new ≡ record old { state = record old.state { store = new.state.store } }
  pub adds : AddsCells old.state.store new.state.store
  pub keeps : Keeps old.state.store new.state.store
  pub store : IsStore new.state.store
  pub named : AreNamed (length old.atoms) new.state.store.cells
