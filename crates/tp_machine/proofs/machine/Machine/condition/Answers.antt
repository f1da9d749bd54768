use Rattle.std.proofs.Common.{◌+◌, arith, sym, subst}
use Rattle.tp_machine.specs.declared.machine.Machine.{Machine}
use Rattle.tp_machine.specs.declared.stepped.Stepped.TheVariants.{Went}
use Rattle.tp_machine.specs.Machine.{Steps}
use Rattle.tp_state.proofs.GoingBack.Follows.{follows-then}
use Rattle.tp_machine.proofs.Step.Control.{conditions, two_of_condition}
use Rattle.tp_machine.proofs.Step.Items.{rest-follows}
use Rattle.tp_machine.proofs.machine.Machine.condition.Goals as goal

pub argument-goal-requires : goal.argument-goal-requires
argument-goal-requires c = omega (arith, two_of_condition c.args.self.now c.args.task c.args.call c.requires.machine c.requires.call, c.requires.call.call.within)

pub returns-clause-done : goal.returns-clause-done
returns-clause-done c =
    let m = c.args.self.now in
    subst (λ (x : Machine). Steps m (record x { stamp = x.stamp + 1 }) Went) (sym c.push_condition.ensures.same)
    (conditions m c.args.task c.args.call c.requires.machine c.push_condition.new.self.state c.argument-goal.result c.requires.call c.argument-goal.ensures
    (follows-then _ _ _ (rest-follows m.state c.args.task.rest) c.in_ok-push_condition.ensures.follows) c.in_ok-push_condition.ensures.plain)
