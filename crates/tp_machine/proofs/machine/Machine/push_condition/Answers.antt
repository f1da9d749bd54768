use Rattle.tp_state.proofs.GoingBack.Follows.{follows-then}
use Rattle.tp_machine.proofs.machine.Machine.push_condition.Goals as goal

pub returns-clause-follows : goal.returns-clause-follows
returns-clause-follows c = follows-then _ _ _ c.in_ok-push.ensures.follows (follows-then _ _ _ c.in_ok-push-2.ensures.follows c.in_ok-push-3.ensures.follows)
