use Rattle.std.proofs.Common.{◌↔◌, ℕ, List}
use Rattle.tp_terms.specs.Term.{Name, Term}
use Rattle.tp_store.specs.Contents.{subst_of}
use Rattle.tp_store.specs.Chain.{contents_of}
use Rattle.tp_store.specs.Work.{Extends, ArePairsIn, Each, pairs_size}
use Rattle.tp_store.proofs.pairs.next_binding.Given as goal

abbrev pub invariant-pairs : goal.invariant-pairs
invariant-pairs l = record {
  places : ArePairsIn l.chains.cells.items l.work.items;
  same : (names : List Name) (f : ℕ → Term) → Extends (subst_of names (contents_of l.chains)) f → Each f names l.chains.cells.items l.fn.work.items ↔ Each f names l.chains.cells.items l.work.items;
}

abbrev pub decreases-pairs : goal.decreases-pairs
decreases-pairs l = pairs_size (contents_of l.chains) l.work.items
