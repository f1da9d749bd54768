use Rattle.std.proofs.Common.{◌≡◌, List}
use Rattle.tp_terms.specs.Term.{Name, occurs}
use Rattle.tp_store.specs.Contents.{seen}
use Rattle.tp_store.specs.Chain.{contents_of}
use Rattle.tp_store.specs.Work.{AreIn, occurs_each, places_size}
use Rattle.tp_store.proofs.pairs.occurs_at.Given as goal

abbrev pub invariant-visits : goal.invariant-visits
invariant-visits l = record {
  places : AreIn l.chains.cells.items l.work.items;
  same : (names : List Name) → occurs_each names (contents_of l.chains) l.number l.work.items ≡ occurs l.number (seen names (contents_of l.chains) l.fn.place.at);
}

abbrev pub decreases-visits : goal.decreases-visits
decreases-visits l = places_size (contents_of l.chains) l.work.items
