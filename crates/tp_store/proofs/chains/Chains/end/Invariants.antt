use Rattle.std.proofs.Common.{◌≡◌, ◌<◌, List, length, slice_get, Some}
use Rattle.tp_terms.specs.Term.{Name}
use Rattle.tp_terms.specs.Shown.{StandsBefore}
use Rattle.tp_store.specs.Contents.{seen, seen_cell}
use Rattle.tp_store.specs.Chain.{MayEndAt, contents_of, rank}
use Rattle.tp_store.proofs.chains.Chains.end.Given as goal

abbrev pub invariant-chain : goal.invariant-chain
invariant-chain l = record {
  within : l.place.at < length l.self.cells.items;
  cell : slice_get l.self.cells.items l.place.at ≡ Some l.cell;
  met : MayEndAt (contents_of l.self) l.fn.at l.place;
  before : StandsBefore l.place.at l.cell;
  same : (names : List Name) → seen_cell names (contents_of l.self) l.cell ≡ seen names (contents_of l.self) l.fn.at.at;
}

abbrev pub decreases-chain : goal.decreases-chain
decreases-chain l = rank l.cell
