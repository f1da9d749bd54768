use Rattle.std.proofs.Common.{sym, ap}
use Rattle.std.specs.Str.{chars}
use Rattle.tp_parse.specs.Table.{type_of}
use Rattle.tp_parse.proofs.Operators.{type_of-none}
use Rattle.tp_parse.proofs.table.OpType.named.Goals as goal

pub returns-in-xfx : goal.returns-in-xfx
unfolding chars
returns-in-xfx c = ap (λ b. type_of (chars b)) (sym c.in-xfx.is)

pub returns-in-xfy : goal.returns-in-xfy
unfolding chars
returns-in-xfy c = ap (λ b. type_of (chars b)) (sym c.in-xfy.is)

pub returns-in-yfx : goal.returns-in-yfx
unfolding chars
returns-in-yfx c = ap (λ b. type_of (chars b)) (sym c.in-yfx.is)

pub returns-in-fy : goal.returns-in-fy
unfolding chars
returns-in-fy c = ap (λ b. type_of (chars b)) (sym c.in-fy.is)

pub returns-in-fx : goal.returns-in-fx
unfolding chars
returns-in-fx c = ap (λ b. type_of (chars b)) (sym c.in-fx.is)

pub returns-in_default : goal.returns-in_default
returns-in_default c = sym (type_of-none c.args.name.now c.utf8.name c.in_default.not-xfx c.in_default.not-xfy c.in_default.not-yfx c.in_default.not-fy c.in_default.not-fx)
