use Rattle.std.proofs.Common.{subst, sym, ◌<◌, IfSome}
use Rattle.tp_control.specs.Stamps.{newest}
use Rattle.tp_control.proofs.StampsStay.{rise-above-newest}
use Rattle.tp_control.proofs.choices.Choices.push.Goals as goal

pub invariant_of-self-2 : goal.invariant_of-self-2
invariant_of-self-2 c =
    rw c.in_ok-push.ensures.items
    (rise-above-newest c.self.inside.choices.items c.args.choice c.self.invariant
    (subst (λ cs. IfSome (newest cs) (λ d. d.stamp < c.args.choice.stamp)) (sym c.self.view_is) c.requires))
