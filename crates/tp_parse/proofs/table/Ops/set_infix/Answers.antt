use Rattle.std.specs.Str.{chars}
use Rattle.tp_parse.proofs.table.Ops.set_infix.Goals as goal

pub invariant_of-self-2 : goal.invariant_of-self-2
unfolding chars
invariant_of-self-2 c = c.find-self-inside.ensures
