use Rattle.tp_state.proofs.GoingBack.Follows.{follows-then}
use Rattle.tp_state.proofs.state.State.rouse.Goals as goal

pub returns-clause-follows : goal.returns-clause-follows
returns-clause-follows c = follows-then _ _ _ c.in_ok-change.ensures.follows c.in_ok-plan.ensures.follows
