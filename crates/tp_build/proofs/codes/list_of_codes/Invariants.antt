use Rattle.std.proofs.Common.{◌≤◌, drop, length}
use Rattle.tp_meaning.specs.Heap.{IsHeap}
use Rattle.tp_meaning.specs.Answers.{codes_list}
use Rattle.tp_build.specs.Lists.{MakesSeen}
use Rattle.tp_build.proofs.codes.list_of_codes.Given as goal

abbrev pub invariant-loop-left : goal.invariant-loop-left
invariant-loop-left g l = record {
  most : l.left ≤ length l.name;
  made : MakesSeen (g.T.Terms.heap l.fn.terms) (g.T.Terms.heap l.terms) l.list (codes_list (drop l.left l.name));
  heap : IsHeap (g.T.Terms.heap l.terms);
}

abbrev pub decreases-loop-left : goal.decreases-loop-left
decreases-loop-left g l = l.left
