use Rattle.std.proofs.Common.{◌≡◌, reverse}
use Rattle.tp_meaning.specs.Arith.{evaluated}
use Rattle.tp_meaning.specs.Heap.{seen}
use Rattle.tp_arith.specs.Work.{AreWaiting, NextStands, all_weight, outcome}
use Rattle.tp_arith.proofs.evaluate.evaluate.Given as goal

abbrev pub invariant-steps : goal.invariant-steps
invariant-steps g l =
    let h = g.T.Terms.heap l.fn.terms in
    record {
      same : outcome h l.next (reverse l.waiting.items) ≡ evaluated (seen h l.fn.at.at);
      next_stands : NextStands h l.next;
      waiting_stand : AreWaiting h (reverse l.waiting.items);
    }

abbrev pub decreases-steps : goal.decreases-steps
decreases-steps g l = all_weight (g.T.Terms.heap l.fn.terms) l.next (reverse l.waiting.items)
