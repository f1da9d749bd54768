use Rattle.tp_state.proofs.GoingBack.Follows.{follows-then}
use Rattle.tp_machine.proofs.Step.Items.{rest-follows}
use Rattle.tp_meaning.specs.declared.goals.ControlGoal.TheVariants.{Disjunction}
use Rattle.std.proofs.Common.{refl}
use Rattle.tp_machine.proofs.Step.Sides.{chooses}
use Rattle.tp_machine.proofs.Step.Seconds.{may_choose}
use Rattle.tp_machine.proofs.machine.Machine.choose.Goals as goal

pub keep-requires : goal.keep-requires
keep-requires c = may_choose c.args.self.now c.args.task c.args.call Disjunction c.requires.call _ _ refl c.requires.machine refl

pub returns-clause-done : goal.returns-clause-done
returns-clause-done c =
    chooses c.args.self.now c.args.task c.args.call c.requires.call c.keep.new.self c.push.new.self c.requires.machine c.requires.parts c.in_ok-keep.ensures.done
    (follows-then _ _ _ (rest-follows c.keep.new.self.state c.args.task.rest) c.in_ok-push.ensures.follows) c.in_ok-push.ensures.plain
