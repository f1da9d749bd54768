use Rattle.std.proofs.Common.{sym, ap}
use Rattle.std.specs.Str.{chars}
use Rattle.tp_write.specs.Names.{escaped}
use Rattle.tp_write.proofs.names.short_escape.Goals as goal

pub returns-in-92-clause-some : goal.returns-in-92-clause-some
unfolding chars
returns-in-92-clause-some c = ap escaped (sym c.in-92.is)

pub returns-in-39-clause-some : goal.returns-in-39-clause-some
unfolding chars
returns-in-39-clause-some c = ap escaped (sym c.in-39.is)

pub returns-in-7-clause-some : goal.returns-in-7-clause-some
unfolding chars
returns-in-7-clause-some c = ap escaped (sym c.in-7.is)

pub returns-in-8-clause-some : goal.returns-in-8-clause-some
unfolding chars
returns-in-8-clause-some c = ap escaped (sym c.in-8.is)

pub returns-in-9-clause-some : goal.returns-in-9-clause-some
unfolding chars
returns-in-9-clause-some c = ap escaped (sym c.in-9.is)

pub returns-in-10-clause-some : goal.returns-in-10-clause-some
unfolding chars
returns-in-10-clause-some c = ap escaped (sym c.in-10.is)

pub returns-in-11-clause-some : goal.returns-in-11-clause-some
unfolding chars
returns-in-11-clause-some c = ap escaped (sym c.in-11.is)

pub returns-in-12-clause-some : goal.returns-in-12-clause-some
unfolding chars
returns-in-12-clause-some c = ap escaped (sym c.in-12.is)

pub returns-in-13-clause-some : goal.returns-in-13-clause-some
unfolding chars
returns-in-13-clause-some c = ap escaped (sym c.in-13.is)
