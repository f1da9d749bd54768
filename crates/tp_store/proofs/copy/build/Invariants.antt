use Rattle.std.proofs.Common.{length, reverse}
use Rattle.tp_store.proofs.Copies.Rows.{IsRow}
use Rattle.tp_store.proofs.copy.build.Given as goal

abbrev pub invariant-row : goal.invariant-row
invariant-row l = IsRow l.fn.chains (reverse l.fn.made.items) (length l.fn.made.items) l.k l.chains l.made.items
