use Rattle.std.proofs.Common.{sym}
use Rattle.tp_parse.proofs.Operators.{is_kept_name-one, is_kept_name-none}
use Rattle.tp_parse.proofs.table.is_kept_name.Goals as goal

pub returns-in-text : goal.returns-in-text
returns-in-text c = is_kept_name-one c.args.name.now c.in-text.is

pub returns-in-text-2 : goal.returns-in-text-2
returns-in-text-2 c = is_kept_name-one c.args.name.now c.in-text.is

pub returns-in-text-3 : goal.returns-in-text-3
returns-in-text-3 c = is_kept_name-one c.args.name.now c.in-text.is

pub returns-in-text-4 : goal.returns-in-text-4
returns-in-text-4 c = is_kept_name-one c.args.name.now c.in-text.is

pub returns-in_default : goal.returns-in_default
returns-in_default c =
    sym (is_kept_name-none c.args.name.now c.utf8.name c.in_default.not-text c.in_default.not-text-2 c.in_default.not-text-3 c.in_default.not-text-4)
