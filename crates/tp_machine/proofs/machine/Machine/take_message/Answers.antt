use Rattle.std.proofs.Common.{◌<◌, length, ap, sym, subst, ◌∙◌}
use Rattle.tp_terms.specs.declared.world.EventKind.TheVariants.{Take}
use Rattle.tp_state.specs.Acts.{noted}
use Rattle.tp_state.specs.Plain.{Plain}
use Rattle.tp_state.proofs.GoingBack.Follows.{follows-then}
use Rattle.tp_machine.proofs.Step.Acting.{first_there}
use Rattle.tp_machine.proofs.Step.Items.{rest-follows}
use Rattle.tp_machine.proofs.Step.Taking.{message_there, taking}
use Rattle.tp_meaning.specs.declared.goals.ProcessGoal.TheVariants.{WaitFor}
use Rattle.tp_machine.proofs.machine.Machine.take_message.Goals as goal

pub unify-requires-clause-left : goal.unify-requires-clause-left
unify-requires-clause-left c =
    let m = c.args.self.now in
    let is = c.in_ok-note.ensures.plain ∙ ap (noted c.args.task.process (Take c.in_ok-message.message)) c.in_ok-message.ensures.plain in
    subst (λ (p : Plain). c.in_ok-message.message.at < length p.store.cells) (sym is) (message_there m c.args.task c.args.call c.args.place c.requires c.in_ok-message.message c.in_ok-message.ensures.stood)

pub unify-requires-clause-right : goal.unify-requires-clause-right
unify-requires-clause-right c =
    let m = c.args.self.now in
    let is = c.in_ok-note.ensures.plain ∙ ap (noted c.args.task.process (Take c.in_ok-message.message)) c.in_ok-message.ensures.plain in
    subst (λ (p : Plain). c.args.call.first.at < length p.store.cells) (sym is) (first_there m c.args.task c.args.call WaitFor c.requires.calls)

pub returns-clause-done : goal.returns-clause-done
returns-clause-done c =
    let m = c.args.self.now in
    taking m c.args.task c.args.call c.args.place c.requires c.in_ok-message.message c.in_ok-message.ensures.stood
    c.take_message.new.self c.note.new.self c.unify.new.self _ c.in_ok-message.ensures.plain c.in_ok-note.ensures.plain c.in_ok-_met.ensures.found c.unify.ensures.logged c.unify.ensures.store c.unify.ensures.plain
    (follows-then _ _ _ (rest-follows m.state c.args.task.rest) (follows-then _ _ _ c.in_ok-message.ensures.follows (follows-then _ _ _ c.in_ok-note.ensures.follows c.unify.ensures.follows)))
