use Rattle.tp_state.proofs.GoingBack.Follows.{follows-then}
use Rattle.tp_state_tests.proofs.state.takes_items.Goals as goal

pub returns : goal.returns
returns c =
    follows-then _ _ _ c.rest.ensures.follows (follows-then _ _ _ c.in_ok-push.ensures.follows c.in_ok-push_body.ensures.follows)
