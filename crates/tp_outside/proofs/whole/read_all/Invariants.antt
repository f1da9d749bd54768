use Rattle.std.proofs.Common.{◌≡◌, ℕ, ◌+◌, ◌-◌, ◌<◌, ◌≤◌, length}
use Rattle.tp_outside.specs.Count.{given_more}
use Rattle.tp_outside.proofs.ReadsWhole.Fronts.{IsFront}
use Rattle.tp_outside.proofs.whole.read_all.Given as goal

-- a front of what is held was read and counted, without a fault
abbrev pub invariant-pieces : goal.invariant-pieces
invariant-pieces g l = record {
  front : IsFront (g.S.Shelf.held l.shelf) l.name l.bytes.items;
  within : length l.bytes.items ≤ 16777216;
  kept : g.S.Shelf.held l.shelf ≡ g.S.Shelf.held l.fn.shelf;
  faults : g.S.Shelf.faults l.shelf ≡ g.S.Shelf.faults l.fn.shelf;
  given_most : g.S.Shelf.given l.shelf ≤ g.S.Shelf.given l.fn.shelf + length l.bytes.items;
  given : 0 < length l.bytes.items → g.S.Shelf.given l.shelf ≡ given_more (g.S.Shelf.given l.fn.shelf) (length l.bytes.items);
  given_then : (n : ℕ) → given_more (g.S.Shelf.given l.shelf) n ≡ given_more (g.S.Shelf.given l.fn.shelf) (length l.bytes.items + n);
}

abbrev pub decreases-pieces : goal.decreases-pieces
decreases-pieces g l = 16777217 - length l.bytes.items
