use Rattle.std.proofs.Common.{◌≡◌, ◌<◌, length}
use Rattle.tp_procs.specs.Tree.{IsTreeBut}
use Rattle.tp_procs.proofs.tree.mend.Given as goal

abbrev pub invariant-loop-at : goal.invariant-loop-at
invariant-loop-at l = record {
  same : length l.nodes ≡ length l.fn.nodes;
  within : l.at < length l.nodes;
  others : IsTreeBut l.procs l.nodes l.at;
}

abbrev pub decreases-loop-at : goal.decreases-loop-at
decreases-loop-at l = l.at
