use Rattle.std.proofs.Common.{[], ◌∷◌, ap, sym, refl}
use Rattle.tp_meaning.specs.declared.goals.ControlGoal.TheVariants.{Repeat}
use Rattle.tp_control.specs.declared.frames.Item.TheVariants.{Goal}
use Rattle.tp_meaning.specs.World as world
use Rattle.tp_meaning.specs.Turn.{going}
use Rattle.tp_state.proofs.GoingBack.Follows.{follows-then}
use Rattle.tp_machine.proofs.Step.First.{rest_in, turn_in}
use Rattle.tp_machine.proofs.Step.Items.{rest-follows}
use Rattle.tp_machine.proofs.Step.Seconds.{seconds}
use Rattle.tp_machine.proofs.machine.Machine.go_again.Goals as goal

pub returns-clause-done : goal.returns-clause-done
returns-clause-done c =
    let m = c.args.self.now in
    let t = c.args.task in
    seconds m t c.args._call Repeat c.requires.call _ _ refl (Goal t.goal t.barrier ∷ []) c.push.new.self c.requires.back (c.requires.call.meets.stands, tt)
    (follows-then _ _ _ (rest-follows m.state t.rest) c.in_ok-push.ensures.follows) c.in_ok-push.ensures.plain
    (ap (λ x. going (turn_in m t.process t.rest) (world.Goal x t.barrier ∷ rest_in m t.rest)) (sym c.requires.call.call.is))
