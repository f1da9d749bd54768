use Rattle.std.proofs.Common.{◌≡◌, ◌+◌, ◌-◌, ◌++◌, reverse}
use Rattle.tp_store.specs.Work.{places_from}
use Rattle.tp_store.proofs.rename.push_row.Given as goal

abbrev pub invariant-row : goal.invariant-row
invariant-row l = reverse l.work.items ≡ places_from (l.first.at + (l.count - l.k)) l.k ++ reverse l.fn.work.items
