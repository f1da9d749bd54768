use Rattle.tp_state.proofs.GoingBack.Follows.{follows-then}
use Rattle.tp_state_tests.proofs.state.goes_on.Goals as goal

pub returns : goal.returns
returns c =
    follows-then _ _ _ c.in_ok-pid.ensures
    (follows-then _ _ _ c.in_ok-runs.ensures
    (follows-then _ _ _ c.in_ok-opens.ensures
    (follows-then _ _ _ c.in_ok-note.ensures.follows
    (follows-then _ _ _ c.in_ok-takes_items.ensures
    (follows-then _ _ _ c.in_ok-makes_equal.ensures
    (follows-then _ _ _ c.in_ok-ends_at.ensures
    (follows-then _ _ _ c.in_ok-leaves.ensures c.in_ok-mark_others.ensures.follows)))))))
