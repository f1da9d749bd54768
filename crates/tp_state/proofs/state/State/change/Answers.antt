use Rattle.tp_state.specs.State.{held_of}
use Rattle.tp_state.proofs.Changes.{change-follows}
use Rattle.tp_state.proofs.state.State.change.Goals as goal

pub returns-clause-follows : goal.returns-clause-follows
returns-clause-follows c =
    change-follows (held_of c.args.self.now) c.args.pid c.args.proc c.set.new.self c.set.new.log c.requires.pid c.requires.name
    c.in_ok-set.ensures.procs c.in_ok-set.ensures.log c.in_ok-set.ensures.inverse
