use Rattle.std.proofs.Common.{reverse}
use Rattle.tp_store.specs.Chain.{IsChains, contents_of}
use Rattle.tp_store.specs.Renamed.{renaming}
use Rattle.tp_store.proofs.Copies.Tasks.{IsCopying, tasks_size}
use Rattle.tp_store.proofs.rename.copy_renamed.Given as goal

abbrev pub invariant-tasks : goal.invariant-tasks
invariant-tasks l = record {
  chains : IsChains l.chains;
  copying : IsCopying l.fn.chains.cells.items (renaming (contents_of l.fn.chains) l.base l.variables.keys) l.fn.root.at (contents_of l.fn.chains) (contents_of l.chains) (reverse l.tasks.items) (reverse l.made.items);
}

abbrev pub decreases-tasks : goal.decreases-tasks
decreases-tasks l = tasks_size (renaming (contents_of l.fn.chains) l.base l.variables.keys) (reverse l.tasks.items)
