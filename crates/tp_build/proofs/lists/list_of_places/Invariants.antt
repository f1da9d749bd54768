use Rattle.std.proofs.Common.{◌+◌, ◌-◌, ◌≤◌}
use Rattle.tp_terms.specs.Term.{list_term, terms_in}
use Rattle.tp_meaning.specs.Heap.{IsHeap}
use Rattle.tp_build.specs.Answers.{args_seen}
use Rattle.tp_build.specs.Lists.{MakesSeen}
use Rattle.tp_build.proofs.lists.list_of_places.Given as goal

abbrev pub invariant-loop-left : goal.invariant-loop-left
invariant-loop-left g l = record {
  most : l.left ≤ l.count;
  made : MakesSeen (g.T.Terms.heap l.fn.terms) (g.T.Terms.heap l.terms) l.list (list_term (terms_in (args_seen (g.T.Terms.heap l.fn.terms) (l.first.at + l.left) (l.count - l.left))));
  heap : IsHeap (g.T.Terms.heap l.terms);
}

abbrev pub decreases-loop-left : goal.decreases-loop-left
decreases-loop-left g l = l.left
