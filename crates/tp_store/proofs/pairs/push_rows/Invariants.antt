use Rattle.std.proofs.Common.{◌≡◌, ◌+◌, ◌-◌, ◌++◌, reverse}
use Rattle.tp_store.specs.Work.{pairs_from}
use Rattle.tp_store.proofs.pairs.push_rows.Given as goal

abbrev pub invariant-rows : goal.invariant-rows
invariant-rows l = reverse l.work.items ≡ pairs_from (l.left.at + (l.count - l.k)) (l.right.at + (l.count - l.k)) l.k ++ reverse l.fn.work.items
