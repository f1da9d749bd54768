use Rattle.std.proofs.Common.{subst, ap}
use Rattle.tp_store.specs.Contents.{FindsUnifier}
use Rattle.tp_state.specs.declared.state.State.{State}
use Rattle.tp_state.specs.Acts.{resting}
use Rattle.tp_state.specs.State.{plain_of}
use Rattle.tp_state.proofs.GoingBack.Follows.{follows-then}
use Rattle.tp_machine.proofs.Step.Items.{rest-follows}
use Rattle.tp_machine.proofs.Step.United.{apart, united}
use Rattle.tp_machine.proofs.machine.Machine.unite.Goals as goal

pub returns-then-found-clause-done : goal.returns-then-found-clause-done
returns-then-found-clause-done c =
    let m = c.args.self.now in
    let s = c.unify.new.self in
    united m c.args.task c.args.left c.args.right c.requires.machine c.requires.unites s
    (subst (λ b. FindsUnifier m.state.store s.store c.args.left c.args.right b) c.if-found.true c.in_ok-found.ensures.found)
    c.unify.ensures.logged c.unify.ensures.store _ (follows-then _ _ _ c.unify.ensures.follows (rest-follows s c.args.task.rest))
    (ap (λ (x : State). resting c.args.task.rest (plain_of x)) c.unify.ensures.same)

pub returns-else-found-clause-done : goal.returns-else-found-clause-done
returns-else-found-clause-done c =
    let m = c.args.self.now in
    let s = c.unify.new.self in
    apart m c.args.task c.args.left c.args.right c.requires.machine c.requires.unites s
    (subst (λ b. FindsUnifier m.state.store s.store c.args.left c.args.right b) c.if-found.false c.in_ok-found.ensures.found)
    (c.unify.ensures.stays (λ e. let w = c.in_ok-found.was in let f = c.if-found.false in cc)) c.unify.ensures.same
