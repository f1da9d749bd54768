use Rattle.tp_state.proofs.GoingBack.Follows.{follows-then}
use Rattle.tp_state.proofs.state.State.post.Goals as goal

pub returns-clause-follows : goal.returns-clause-follows
returns-clause-follows c = follows-then _ _ _ c.in_ok-deliver.ensures.follows (follows-then _ _ _ c.in_ok-note.ensures.follows c.in_ok-rouse.ensures.follows)
