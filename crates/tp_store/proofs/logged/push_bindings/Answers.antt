use Rattle.std.proofs.Common.{arith}
use Rattle.tp_store.proofs.Logging.Entries.{pushed}
use Rattle.tp_store.proofs.logged.push_bindings.Goals as goal

pub loop-at-preserved : goal.loop-at-preserved
loop-at-preserved c =
    pushed c.args.kept c.loop-at.at c.args.trail.now.pairs c.number.result c.args.log.now c.loop-at.log c.push.new.self (omega arith) (omega arith) c.number.ensures c.loop-at.invariant c.in_ok-push.ensures.added
