use Rattle.tp_store.proofs.Unifier.Work.{places_pushed}
use Rattle.tp_store.proofs.pairs.push_places.Goals as goal

pub loop-k-preserved : goal.loop-k-preserved
loop-k-preserved c = places_pushed c.args.work.now.items c.loop-k.work.items c.push.new.self.items c.args.first.at c.loop-k.k c.loop-k.invariant c.in_ok-push.ensures.items
