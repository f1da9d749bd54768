use Rattle.std.proofs.Common.{◌≡◌, ◌-◌, ◌≤◌, ◌<◌, length}
use Rattle.tp_meaning.specs.Heap.{IsHeap}
use Rattle.tp_build.specs.Parts.{ShowsRow}
use Rattle.tp_build.proofs.parts.place_row.Given as goal

abbrev pub invariant-loop-placed : goal.invariant-loop-placed
invariant-loop-placed g l = record {
  some : 0 < l.placed;
  most : l.placed ≤ length l.places;
  place : l.first.at ≡ length (g.T.Terms.heap l.fn.terms).cells;
  row : ShowsRow (g.T.Terms.heap l.fn.terms) (g.T.Terms.heap l.terms) l.places l.placed;
  heap : IsHeap (g.T.Terms.heap l.terms);
}

abbrev pub decreases-loop-placed : goal.decreases-loop-placed
decreases-loop-placed g l = length l.places - l.placed
