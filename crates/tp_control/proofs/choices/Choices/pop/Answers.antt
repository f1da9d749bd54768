use Rattle.std.proofs.Common.{subst}
use Rattle.tp_control.specs.Stamps.{StampsRise}
use Rattle.tp_control.proofs.StampsStay.{rise-popped}
use Rattle.tp_control.proofs.choices.Choices.pop.Goals as goal

pub invariant_of-self : goal.invariant_of-self
invariant_of-self c = rise-popped c.pop.new.self.items c.pop.result (subst StampsRise c.pop.ensures.items c.self.invariant)
