use Rattle.tp_procs.proofs.Kept.{all-set-back}
use Rattle.tp_procs.proofs.Procs.set.Goals as goal

pub returns-clause-inverse : goal.returns-clause-inverse
returns-clause-inverse c = rw c.change.ensures (all-set-back c.args.self.now c.args.pid c.args.proc)
