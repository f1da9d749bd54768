use Rattle.std.proofs.Common.{◌+◌, ◌∷◌, sym, ap, subst, ◌∙◌}
use Rattle.tp_control.specs.declared.choices.Alt.TheVariants.{Message}
use Rattle.tp_machine.specs.declared.machine.Machine.{Machine}
use Rattle.tp_machine.specs.Acting.{HasNoMail}
use Rattle.tp_machine.specs.Goes.{IsKept}
use Rattle.tp_machine.specs.Machine.{world_in}
use Rattle.tp_machine.proofs.Step.Back.{untried-same}
use Rattle.tp_machine.proofs.Step.Parts.{to_branch}
use Rattle.tp_machine.proofs.Step.Taking.{has_none, next_untried, takes_kept, waits_for}
use Rattle.tp_machine.proofs.machine.Machine.wait_for.Goals as goal

pub await_mail-requires-clause-none : goal.await_mail-requires-clause-none
await_mail-requires-clause-none c =
    subst (λ (x : Machine). HasNoMail x c.args.task c.args.call) (sym c.in_ok-first.ensures.same)
    (has_none c.args.self.now c.args.task c.args.call c.requires.call (sym c.in_ok-first.ensures.found ∙ c.in_default.is))

pub take_message-requires : goal.take_message-requires
take_message-requires c =
    let m = c.args.self.now in
    let first = c.in-Some.first in
    let kept = subst (λ (x : Machine). IsKept x (Message (first + 1)) c.keep_messages.new.self) c.in_ok-first.ensures.same c.in_ok-keep_messages.ensures.done in
    let n = next_untried m c.args.task c.args.call c.requires.call 0 first (sym c.in_ok-first.ensures.found ∙ c.in-Some.is) in
    takes_kept m c.keep_messages.new.self (Message (first + 1)) kept c.args.task c.args.call first n.hit

pub returns-clause-done : goal.returns-clause-done
returns-clause-done c =
    let m = c.args.self.now in
    let first = c.in-Some.first in
    let mid = c.keep_messages.new.self in
    let new = c.take_message.new.self in
    let kept = subst (λ (x : Machine). IsKept x (Message (first + 1)) c.keep_messages.new.self) c.in_ok-first.ensures.same c.in_ok-keep_messages.ensures.done in
    let e = c.in_ok-take_message.ensures.done in
    to_branch m mid new (Message (first + 1)) c.requires.machine kept e.goes
    (waits_for m c.args.task c.args.call c.requires.call first (world_in new) (sym c.in_ok-first.ensures.found ∙ c.in-Some.is)
    (sym (untried-same m mid (Message (first + 1)) kept (Message first)) ∙ e.world ∙ ap (λ ws. world_in new ∷ ws) (untried-same m mid (Message (first + 1)) kept (Message (first + 1)))))
