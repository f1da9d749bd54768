use Rattle.std.proofs.Common.{sym, ◌∙◌}
use Rattle.tp_store.proofs.Unifier.Work.{bind_right, same_constants, clash_constants, constant_older}
use Rattle.tp_store.proofs.pairs.compare_constant.Goals as goal

pub returns-in-Var : goal.returns-in-Var
returns-in-Var c = λ contents work left right. bind_right contents c.args.constant c.args.other c.in-Var.number work left right c.in-Var.is (constant_older c.args.constant.cell c.in-Var.number c.requires)

pub returns-then-same_constant : goal.returns-then-same_constant
returns-then-same_constant c = λ contents work left right. same_constants contents c.args.constant.cell c.args.other.cell work (sym c.same_constant.ensures ∙ c.if-same_constant.true)

pub returns-else-same_constant : goal.returns-else-same_constant
returns-else-same_constant c = λ contents work left right. clash_constants contents c.args.constant c.args.other work left right c.requires c.in_default.not-Var (sym c.same_constant.ensures ∙ c.if-same_constant.false)
