use Rattle.std.proofs.Common.{◌≡◌, ◌++◌}
use Rattle.tp_store.specs.Work.{places_from}
use Rattle.tp_store.proofs.pairs.push_places.Given as goal

abbrev pub invariant-loop-k : goal.invariant-loop-k
invariant-loop-k l = l.work.items ≡ l.fn.work.items ++ places_from l.first.at l.k
