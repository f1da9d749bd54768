use Rattle.std.proofs.Common.{subst}
use Rattle.tp_control.specs.Stamps.{StampsRise}
use Rattle.tp_control.proofs.StampsStay.{rise-changed}
use Rattle.tp_control.proofs.choices.Choices.set_last.Goals as goal

pub invariant_of-self-2 : goal.invariant_of-self-2
invariant_of-self-2 c =
    rw c.push_reserved.ensures.items
    (rise-changed c.pop.new.self.items c.in-Some.newest c.args.next (subst StampsRise c.in-Some.ensures.items c.self.invariant))
