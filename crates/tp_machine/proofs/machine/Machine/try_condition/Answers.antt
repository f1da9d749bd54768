use Rattle.tp_state.proofs.GoingBack.Follows.{follows-then}
use Rattle.std.proofs.Common.{IfSome, ◌+◌, ◌<◌, length, ap, sym, subst, ◌∙◌}
use Rattle.tp_control.specs.declared.frames.Item.TheVariants.{Goal}
use Rattle.tp_state.specs.Acts.{pushed}
use Rattle.tp_state.specs.declared.state.State.{State}
use Rattle.tp_machine.specs.declared.machine.Machine.{Machine}
use Rattle.tp_machine.proofs.Step.Items.{rest-follows}
use Rattle.tp_machine.proofs.Step.Waiting.{may_wait, tries}
use Rattle.tp_machine.proofs.machine.Machine.try_condition.Goals as goal

pub keep-requires : goal.keep-requires
keep-requires c = may_wait c.args.self.now c.args.task c.args._call c.requires.stands.calls _ c.requires.machine c.requires.stands.is

pub push-requires : goal.push-requires
push-requires c = subst (λ (x : State). IfSome c.args.task.rest (λ i. i.at < length x.frames)) (sym (ap (λ (y : Machine). y.state) c.in_ok-keep.ensures.done.same)) c.requires.stands.calls.meets.rest

pub returns-clause-done : goal.returns-clause-done
returns-clause-done c =
    tries c.args.self.now c.args.task c.args._call c.requires.stands.calls c.keep.new.self c.push-2.new.self c.args.place c.requires.machine c.requires.stands c.in_ok-keep.ensures.done
    (follows-then _ _ _ (rest-follows c.keep.new.self.state c.args.task.rest) (follows-then _ _ _ c.in_ok-push.ensures.follows c.in_ok-push-2.ensures.follows))
    (c.in_ok-push-2.ensures.plain ∙ ap (pushed (Goal c.args.place (c.keep.new.self.stamp + 1))) c.in_ok-push.ensures.plain)
