use Rattle.std.proofs.Common.{◌≡◌, ◌-◌, ◌≤◌, ◌<◌, length}
use Rattle.tp_meaning.specs.Heap.{IsHeap}
use Rattle.tp_build.specs.Functor.{with_variables}
use Rattle.tp_build.proofs.functors.variables.Given as goal

abbrev pub invariant-loop-made : goal.invariant-loop-made
invariant-loop-made g l = record {
  some : 0 < l.made;
  most : l.made ≤ l.count;
  place : l.first.at ≡ length (g.T.Terms.heap l.fn.terms).cells;
  value : g.T.Terms.heap l.terms ≡ with_variables (g.T.Terms.heap l.fn.terms) l.made;
  heap : IsHeap (g.T.Terms.heap l.terms);
}

abbrev pub decreases-loop-made : goal.decreases-loop-made
decreases-loop-made g l = l.count - l.made
