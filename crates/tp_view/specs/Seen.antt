-- A view, as a heap.
use Rattle.std.specs.Prelude.{List}
use Rattle.tp_terms.specs.Term.{Name}
use Rattle.tp_log.specs.declared.entry.Entry.{Entry}
use Rattle.tp_store.specs.Contents.{Contents, subst_of}
use Rattle.tp_meaning.specs.Heap.{Heap}

-- what a store, a log and a table of names are together
abbrev pub heap_of : Contents → List Entry → List Name → Heap
heap_of c log names = record {
  cells = c.cells;
  subst = subst_of names c;
  next = c.vars;
  names = names;
  trail = record { pairs = c.pairs; log = log };
}
