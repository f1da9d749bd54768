use Rattle.std.proofs.Common.{◌≡◌, ◌++◌, take}
use Rattle.tp_parse.proofs.build.add_all.Given as goal

abbrev pub invariant-loop-item : goal.invariant-loop-item
invariant-loop-item l = l.cells.items ≡ l.fn.cells.items ++ take l.item-index l.items
