use Rattle.std.proofs.Common.{refl, arith}
use Rattle.tp_state.proofs.GoingBack.Logs.{covers-same}
use Rattle.tp_state.proofs.GoingBack.Follows.{adds, prolongs-same}
use Rattle.tp_state.proofs.state.State.note.Goals as goal

pub returns-clause-follows : goal.returns-clause-follows
returns-clause-follows c = adds _ _ refl refl (covers-same _) (prolongs-same _) (omega arith) (prolongs-same _) (_, c.in_ok-push.ensures.added)
