use Rattle.std.proofs.Common.{ap}
use Rattle.tp_meaning.specs.Control.{parts}
use Rattle.tp_machine.proofs.parts.parts_of.Goals as goal

pub returns-in-Unbound : goal.returns-in-Unbound
returns-in-Unbound c names table named = ap parts (c.in-Unbound.ensures names named).1
