use Rattle.tp_store.proofs.Unifier.Work.{step_by_cell}
use Rattle.tp_store.proofs.pairs.compare.Goals as goal

pub returns-in-Var : goal.returns-in-Var
returns-in-Var c = λ contents left right. step_by_cell contents c.args.left c.args.right _ c.args.work.now.items _ left right c.in-Var.is (c.compare_variable.ensures contents c.args.work.now.items)

pub returns-in_default : goal.returns-in_default
returns-in_default c = λ contents left right. c.compare_constant.ensures contents c.args.work.now.items left right
