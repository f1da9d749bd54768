use Rattle.std.proofs.Common.{reverse}
use Rattle.tp_store.specs.Chain.{IsChains, contents_of}
use Rattle.tp_store.specs.Copy.{on_from}
use Rattle.tp_store.proofs.Copies.Tasks.{IsCopying, tasks_size}
use Rattle.tp_store.proofs.copy.copy.Given as goal

abbrev pub invariant-tasks : goal.invariant-tasks
invariant-tasks l = record {
  chains : IsChains l.chains;
  copying : IsCopying l.from.items (on_from l.from.items l.base) l.fn.root.at (contents_of l.fn.chains) (contents_of l.chains) (reverse l.work.tasks.items) (reverse l.work.made.items);
}

abbrev pub decreases-tasks : goal.decreases-tasks
decreases-tasks l = tasks_size (on_from l.from.items l.base) (reverse l.work.tasks.items)
