use Rattle.tp_store.proofs.Copies.Rows.{copies_pushed}
use Rattle.tp_store.proofs.copy.push_copies.Goals as goal

pub loop-k-preserved : goal.loop-k-preserved
loop-k-preserved c = copies_pushed c.args.tasks.now.items c.loop-k.tasks.items c.push.new.self.items c.args.first.at c.loop-k.k c.loop-k.invariant c.in_ok-push.ensures.items
