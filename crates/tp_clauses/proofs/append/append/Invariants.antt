use Rattle.std.proofs.Common.{◌≡◌, ◌++◌, length, map, take}
use Rattle.tp_clauses.specs.Moved.{moved}
use Rattle.tp_clauses.proofs.append.append.Given as goal

abbrev pub invariant-loop-at : goal.invariant-loop-at
invariant-loop-at l = record {
  cells : l.store.cells ≡ l.fn.store.cells ++ map (moved (length l.fn.store.cells)) (take l.at l.more.items);
  pairs : l.store.pairs ≡ l.fn.store.pairs;
}
