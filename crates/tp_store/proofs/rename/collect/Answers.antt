use Rattle.tp_store.proofs.Copies.Variables.{collects_variable, collects_compound}
use Rattle.tp_store.proofs.rename.collect.Goals as goal

pub returns-in_ok-insert-in-Var : goal.returns-in_ok-insert-in-Var
returns-in_ok-insert-in-Var c = λ contents store h.
    collects_variable contents c.args.end.cell c.in-Var.number c.args.variables.now.keys c.insert.new.self.keys c.args.work.now.items store h.unbound c.in-Var.is c.in_ok-insert-in-Var.ensures.keys

pub returns-in_ok-push_row-in-Comp : goal.returns-in_ok-push_row-in-Comp
returns-in_ok-push_row-in-Comp c = λ contents store h.
    collects_compound contents c.args.end c.in-Comp.name c.in-Comp.first c.in-Comp.count c.args.variables.now.keys c.args.work.now.items c.push_row.new.work.items h c.in-Comp.is c.in_ok-push_row-in-Comp.ensures
