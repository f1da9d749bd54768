use Rattle.std.proofs.Common.{◌≡◌, List, Some, slice_get}
use Rattle.tp_terms.specs.Term.{Name}
use Rattle.tp_terms.specs.Shown.{StandsBefore}
use Rattle.tp_write.specs.Under.{under}
use Rattle.tp_write.proofs.BindingsEnd.Chains.{cell_reach}
use Rattle.tp_write.proofs.write.end.Given as goal

abbrev pub invariant-chain : goal.invariant-chain
invariant-chain g l = record {
  stands : slice_get l.cells.items l.place.at ≡ Some l.cell;
  before : StandsBefore l.place.at l.cell;
  same : (names : List Name) → under names (g.B.Binds.bindings l.binds) l.cells.items l.fn.at.at ≡ under names (g.B.Binds.bindings l.binds) l.cells.items l.place.at;
}

abbrev pub decreases-chain : goal.decreases-chain
decreases-chain g l = cell_reach (g.B.Binds.bindings l.binds) l.cells.items l.cell
