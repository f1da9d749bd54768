use Rattle.std.proofs.Common.{◌≡◌, reverse}
use Rattle.tp_meaning.specs.Order.{term_cmp}
use Rattle.tp_store.specs.Contents.{seen}
use Rattle.tp_store.specs.Chain.{contents_of}
use Rattle.tp_store.specs.Ordered.{pairs_cmp}
use Rattle.tp_store.specs.Work.{ArePairsIn, pairs_size}
use Rattle.tp_store.proofs.order.compare.Given as goal

abbrev pub invariant-pairs : goal.invariant-pairs
invariant-pairs l = record {
  places : ArePairsIn l.chains.cells.items (reverse l.work.items);
  same : pairs_cmp l.atoms (contents_of l.chains) (reverse l.work.items) ≡ term_cmp (seen l.atoms (contents_of l.chains) l.fn.left.at) (seen l.atoms (contents_of l.chains) l.fn.right.at);
}

abbrev pub decreases-pairs : goal.decreases-pairs
decreases-pairs l = pairs_size (contents_of l.chains) (reverse l.work.items)
