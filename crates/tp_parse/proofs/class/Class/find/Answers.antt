use Rattle.tp_parse.proofs.Operators.{found-longer}
use Rattle.tp_parse.proofs.class.Class.find.Goals as goal

pub returns-then-name-self : goal.returns-then-name-self
returns-then-name-self c =
    rw (← c.self.view_is) (found-longer c.self.inside.entries.entries c.self.inside.longest c.args.name.now c.utf8.name c.self.invariant c.if-name-self.true)
