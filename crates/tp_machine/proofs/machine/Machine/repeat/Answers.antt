use Rattle.std.proofs.Common.{[], refl}
use Rattle.tp_meaning.specs.declared.goals.ControlGoal.TheVariants.{Repeat}
use Rattle.tp_machine.proofs.Step.Items.{rest-follows}
use Rattle.tp_machine.proofs.Step.Seconds.{may_choose, branches}
use Rattle.tp_machine.proofs.machine.Machine.repeat.Goals as goal

pub keep-requires : goal.keep-requires
keep-requires c = may_choose c.args.self.now c.args.task c.args._call Repeat c.requires.call _ _ refl c.requires.machine refl

pub returns-clause-done : goal.returns-clause-done
returns-clause-done c =
    branches c.args.self.now c.args.task c.args._call Repeat c.requires.call _ _ refl c.keep.new.self [] _ c.requires.machine c.in_ok-keep.ensures.done tt
    (rest-follows c.keep.new.self.state c.args.task.rest) refl refl
