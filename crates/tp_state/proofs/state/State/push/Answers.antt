use Rattle.std.proofs.Common.{[], ◌∷◌, refl, arith}
use Rattle.tp_control.specs.Lists.{items_at}
use Rattle.tp_state.proofs.GoingBack.Logs.{covers-same}
use Rattle.tp_state.proofs.GoingBack.Follows.{adds, prolongs-same}
use Rattle.tp_state.proofs.state.State.push.Goals as goal

pub returns-clause-follows : goal.returns-clause-follows
returns-clause-follows c =
    adds _ _ refl refl (covers-same _) (prolongs-same _) (omega arith) ((c.args.item ∷ items_at c.args.self.now.frames c.args.self.now.items) ∷ [], c.in_ok-first.ensures.lists) (prolongs-same _)
