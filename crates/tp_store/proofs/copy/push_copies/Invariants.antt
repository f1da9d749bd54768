use Rattle.std.proofs.Common.{◌≡◌, ◌++◌, reverse}
use Rattle.tp_store.specs.Copy.{copies}
use Rattle.tp_store.proofs.copy.push_copies.Given as goal

abbrev pub invariant-loop-k : goal.invariant-loop-k
invariant-loop-k l = reverse l.tasks.items ≡ copies l.first.at l.k ++ reverse l.fn.tasks.items
