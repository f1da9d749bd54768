use Rattle.std.proofs.Common.{◌+◌, sym, subst}
use Rattle.tp_machine.specs.declared.machine.Machine.{Machine}
use Rattle.tp_machine.specs.declared.stepped.Stepped.TheVariants.{Went}
use Rattle.tp_machine.specs.Machine.{Steps}
use Rattle.tp_state.proofs.GoingBack.Follows.{follows-then}
use Rattle.tp_machine.proofs.Step.Items.{rest-follows}
use Rattle.tp_meaning.specs.declared.goals.ControlGoal.TheVariants.{NotProvable}
use Rattle.std.proofs.Common.{refl}
use Rattle.tp_machine.proofs.Step.Called.{denies, denied_is, entered_arg}
use Rattle.tp_machine.proofs.Step.Seconds.{may_choose}
use Rattle.tp_machine.proofs.machine.Machine.try_denied.Goals as goal

pub keep-requires : goal.keep-requires
keep-requires c =
    let m = c.args.self.now in
    may_choose m c.args.task c.args._call NotProvable c.requires.stands.calls _ _ (denied_is m c.args.task c.args._call _ (entered_arg m c.args.task c.args._call c.args.place c.requires.stands)) c.requires.machine refl

pub returns-clause-done : goal.returns-clause-done
returns-clause-done c =
    let m = c.args.self.now in
    subst (λ (x : Machine). Steps m (record x { stamp = x.stamp + 1 }) Went) (sym c.push_condition.ensures.same)
    (denies m c.args.task c.args._call c.keep.new.self c.push_condition.new.self.state c.args.place c.args.failure c.requires.machine c.requires.stands c.requires.failure c.in_ok-keep.ensures.done
    (follows-then _ _ _ (rest-follows c.keep.new.self.state c.args.task.rest) c.in_ok-push_condition.ensures.follows) c.in_ok-push_condition.ensures.plain)
