use Rattle.std.proofs.Common.{◌≡◌, [], List, reverse}
use Rattle.tp_terms.specs.Term.{Name}
use Rattle.tp_meaning.specs.Copy.{variables_after}
use Rattle.tp_store.specs.Chain.{contents_of}
use Rattle.tp_store.specs.Contents.{seen}
use Rattle.tp_store.specs.Renamed.{variables_each}
use Rattle.tp_store.specs.Work.{AreIn, places_size}
use Rattle.tp_store.proofs.rename.variables_of.Given as goal

abbrev pub invariant-places : goal.invariant-places
invariant-places l = record {
  places : AreIn l.chains.cells.items (reverse l.work.items);
  same : (names : List Name) → variables_each names (contents_of l.chains) l.variables.keys (reverse l.work.items) ≡ variables_after [] (seen names (contents_of l.chains) l.fn.root.at);
}

abbrev pub decreases-places : goal.decreases-places
decreases-places l = places_size (contents_of l.chains) (reverse l.work.items)
