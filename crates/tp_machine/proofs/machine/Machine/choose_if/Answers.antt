use Rattle.std.proofs.Common.{◌+◌, sym, subst}
use Rattle.tp_machine.specs.declared.machine.Machine.{Machine}
use Rattle.tp_machine.specs.declared.stepped.Stepped.TheVariants.{Went}
use Rattle.tp_machine.specs.Machine.{Steps}
use Rattle.tp_state.proofs.GoingBack.Follows.{follows-then}
use Rattle.tp_machine.proofs.Step.Items.{rest-follows}
use Rattle.tp_meaning.specs.declared.goals.ControlGoal.TheVariants.{Disjunction}
use Rattle.std.proofs.Common.{refl}
use Rattle.tp_machine.proofs.Step.Sides.{chooses_if}
use Rattle.tp_machine.proofs.Step.Seconds.{may_choose}
use Rattle.tp_machine.proofs.machine.Machine.choose_if.Goals as goal

pub keep-requires : goal.keep-requires
keep-requires c = may_choose c.args.self.now c.args.task c.args._call Disjunction c.requires.call _ _ refl c.requires.machine refl

pub returns-clause-done : goal.returns-clause-done
returns-clause-done c =
    let m = c.args.self.now in
    subst (λ (x : Machine). Steps m (record x { stamp = x.stamp + 1 }) Went) (sym c.push_condition.ensures.same)
    (chooses_if m c.args.task c.args._call c.requires.call c.keep.new.self c.push_condition.new.self.state c.args.condition c.args.goal c.requires.machine c.requires.parts c.in_ok-keep.ensures.done
    (follows-then _ _ _ (rest-follows c.keep.new.self.state c.args.task.rest) c.in_ok-push_condition.ensures.follows) c.in_ok-push_condition.ensures.plain)
