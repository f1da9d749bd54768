use Rattle.tp_parse.proofs.Operators.{found-some, found-none}
use Rattle.tp_parse.proofs.class.Class.look_up.Goals as goal

pub returns-in-Some : goal.returns-in-Some
returns-in-Some c =
    rw (← c.self.view_is) (found-some c.self.inside.entries.entries c.args.name.now _ c.utf8.name c.in-Some.ensures.value)

pub returns-in-None : goal.returns-in-None
returns-in-None c =
    rw (← c.self.view_is) (found-none c.self.inside.entries.entries c.args.name.now c.utf8.name c.in-None.ensures.value)
