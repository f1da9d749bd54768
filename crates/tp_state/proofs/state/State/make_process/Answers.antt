use Rattle.std.proofs.Common.{[], ◌∷◌, refl, arith}
use Rattle.tp_control.specs.declared.frames.Item.TheVariants.{Goal}
use Rattle.tp_state.proofs.GoingBack.Logs.{covers-same}
use Rattle.tp_state.proofs.GoingBack.Follows.{adds, follows-then, prolongs-same}
use Rattle.tp_state.proofs.state.State.make_process.Goals as goal

pub returns-clause-follows : goal.returns-clause-follows
returns-clause-follows c =
    follows-then _ _ _
    (adds _ _ refl refl (covers-same _) (prolongs-same _) (omega arith) ((Goal c.args.goal 0 ∷ []) ∷ [], c.in_ok-items.ensures.lists) (prolongs-same _))
    c.in_ok-pid.ensures.follows
