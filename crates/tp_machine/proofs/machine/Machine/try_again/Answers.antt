use Rattle.tp_state.proofs.GoingBack.Follows.{follows-then}
use Rattle.tp_machine.proofs.Step.Items.{rest-follows, tries, may_again, rest_there}
use Rattle.tp_machine.proofs.machine.Machine.try_again.Goals as goal

pub keep-requires : goal.keep-requires
keep-requires c = may_again c.args.self.now c.args._process c.args.goal c.args.rest c.requires.machine c.requires.first

pub push-requires : goal.push-requires
push-requires c = rest_there c.args.self.now c.args._process c.args.goal c.args.rest c.requires.machine c.requires.first c.keep.new.self c.in_ok-keep.ensures.done

pub returns-clause-done : goal.returns-clause-done
returns-clause-done c =
    tries c.args.self.now c.args._process c.args.goal c.args.rest c.requires.machine c.requires.first c.keep.new.self c.push.new.self c.push-2.new.self c.in_ok-keep.ensures.done c.in_ok-push.ensures.plain c.in_ok-push-2.ensures.plain
    (follows-then _ _ _ (rest-follows c.keep.new.self.state c.args.rest) (follows-then _ _ _ c.in_ok-push.ensures.follows c.in_ok-push-2.ensures.follows))
