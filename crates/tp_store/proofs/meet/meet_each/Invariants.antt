use Rattle.std.proofs.Common.{reverse}
use Rattle.tp_store.specs.Chain.{IsChains, contents_of}
use Rattle.tp_store.specs.Meeting.{heads_size}
use Rattle.tp_store.proofs.HeadsMeet.Turns.{IsMeeting}
use Rattle.tp_store.proofs.meet.meet_each.Given as goal

abbrev pub invariant-pairs : goal.invariant-pairs
invariant-pairs l = record {
  chains : IsChains l.chains;
  meeting : IsMeeting (contents_of l.fn.chains) (contents_of l.chains) l.from.items l.base l.fn.first.0.at l.fn.first.1.at (reverse l.work.items);
}

abbrev pub decreases-pairs : goal.decreases-pairs
decreases-pairs l = heads_size l.from.items (reverse l.work.items)
