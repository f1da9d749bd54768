use Rattle.std.proofs.Common.{sym}
use Rattle.tp_write.proofs.Writes.Names.{solo-one, solo-none}
use Rattle.tp_write.proofs.names.is_solo.Goals as goal

pub returns-in-text : goal.returns-in-text
returns-in-text c = solo-one c.args.name.now c.in-text.is

pub returns-in-text-2 : goal.returns-in-text-2
returns-in-text-2 c = solo-one c.args.name.now c.in-text.is

pub returns-in-text-3 : goal.returns-in-text-3
returns-in-text-3 c = solo-one c.args.name.now c.in-text.is

pub returns-in-text-4 : goal.returns-in-text-4
returns-in-text-4 c = solo-one c.args.name.now c.in-text.is

pub returns-in_default : goal.returns-in_default
returns-in_default c = sym (solo-none c.args.name.now c.utf8.name c.in_default.not-text c.in_default.not-text-2 c.in_default.not-text-3 c.in_default.not-text-4)
