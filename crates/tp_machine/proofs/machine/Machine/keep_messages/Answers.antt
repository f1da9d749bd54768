use Rattle.std.proofs.Common.{◌<◌, ◌^◌, ◌-◌, ◌∙◌, IfSome, sym, subst}
use Rattle.tp_machine.specs.declared.machine.Machine.{Machine}
use Rattle.tp_control.specs.declared.choices.Alt.TheVariants.{Message}
use Rattle.tp_machine.specs.Goes.{KeepsWorlds, IsKept, MayKeep, untried_in}
use Rattle.tp_machine.proofs.Step.Taking.{next_untried, may_message, kept_from, kept_none}
use Rattle.tp_machine.proofs.machine.Machine.keep_messages.Goals as goal

pub keep-requires : goal.keep-requires
keep-requires c =
    let m = c.args.self.now in
    let n = next_untried m c.args.task c.args.call c.requires.call c.args.from c.in-Some.next (sym c.in_ok-next.ensures.found ∙ c.in-Some.is) in
    let few = subst (λ o. IfSome o (λ k. k < 2 ^ 64 - 1)) c.in-Some.is c.in_ok-next.ensures.few in
    subst (λ (x : Machine). MayKeep x (Message c.in-Some.next)) (sym c.in_ok-next.ensures.same) (may_message m c.args.task c.args.call c.requires.call c.in-Some.next c.requires.machine n.hit few n.left)

pub returns-in_ok-keep-in-Some-clause-done : goal.returns-in_ok-keep-in-Some-clause-done
returns-in_ok-keep-in-Some-clause-done c =
    let m = c.args.self.now in
    let n = next_untried m c.args.task c.args.call c.requires.call c.args.from c.in-Some.next (sym c.in_ok-next.ensures.found ∙ c.in-Some.is) in
    kept_from m c.args.task c.args.call c.requires.call c.args.from c.in-Some.next c.keep.new.self n.same
    (subst (λ (x : Machine). IsKept x (Message c.in-Some.next) c.keep.new.self) c.in_ok-next.ensures.same c.in_ok-keep-in-Some.ensures.done)

pub returns-in-None-clause-done : goal.returns-in-None-clause-done
returns-in-None-clause-done c =
    let m = c.args.self.now in
    subst (λ (x : Machine). KeepsWorlds m (untried_in m (Message c.args.from)) x) (sym c.in_ok-next.ensures.same)
    (kept_none m c.args.task c.args.call c.requires.call c.args.from c.requires.machine (sym c.in_ok-next.ensures.found ∙ c.in-None.is))
