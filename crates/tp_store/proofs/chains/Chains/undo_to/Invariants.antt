use Rattle.std.proofs.Common.{◌≡◌, ◌≤◌, length, take}
use Rattle.tp_store.specs.Chain.{IsChains}
use Rattle.tp_store.proofs.chains.Chains.undo_to.Given as goal

abbrev pub invariant-undo : goal.invariant-undo
invariant-undo l = record {
  chains : IsChains l.self;
  kept : l.kept ≤ length l.self.trail.pairs;
  cells : l.self.cells ≡ l.fn.self.cells;
  vars : length l.self.trail.bound ≡ length l.fn.self.trail.bound;
  pairs : take l.kept l.self.trail.pairs ≡ take l.kept l.fn.self.trail.pairs;
}

abbrev pub decreases-undo : goal.decreases-undo
decreases-undo l = length l.self.trail.pairs
