use Rattle.tp_state.specs.State.{held_of}
use Rattle.tp_state.proofs.GoingBack.Bindings.{logs-grow, store-follows}
use Rattle.tp_state.proofs.state.State.unify.Goals as goal

pub returns-clause-follows : goal.returns-clause-follows
returns-clause-follows c = store-follows (held_of c.args.self.now) c.unify.new.self c.unify.new.log (logs-grow _ _ _ _ c.unify.ensures.logged)
