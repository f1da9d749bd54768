use Rattle.tp_state.specs.State.{held_of}
use Rattle.tp_state.proofs.Plans.{plan-follows}
use Rattle.tp_state.proofs.state.State.plan.Goals as goal

pub returns-clause-follows : goal.returns-clause-follows
returns-clause-follows c =
    plan-follows (held_of c.args.self.now) _ c.put.new.self.slots c.put.new.log c.put.new.self.room _
    c.in_ok-put.ensures.log c.in_ok-put.ensures.inverse c.put.ensures.room
