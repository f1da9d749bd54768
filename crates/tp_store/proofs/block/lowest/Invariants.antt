use Rattle.std.proofs.Common.{◌≤◌}
use Rattle.tp_store.specs.Block.{IsWhole}
use Rattle.tp_store.proofs.block.lowest.Given as goal

abbrev pub invariant-walk : goal.invariant-walk
invariant-walk l = record {
  low : l.low ≤ l.fn.first;
  at : l.at ≤ l.end;
  whole : IsWhole l.from.items l.low l.at l.end;
}

abbrev pub decreases-walk : goal.decreases-walk
decreases-walk l = l.at
