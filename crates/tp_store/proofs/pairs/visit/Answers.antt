use Rattle.tp_store.proofs.Unifier.Work.{visit_args, visit_variable}
use Rattle.tp_store.proofs.pairs.visit.Goals as goal

pub returns-in-Var : goal.returns-in-Var
returns-in-Var c = λ contents store h. visit_variable contents c.args.number c.args.end c.in-Var.other c.args.work.now.items store h c.in-Var.is

pub returns-in_ok-push_places-in-Comp : goal.returns-in_ok-push_places-in-Comp
returns-in_ok-push_places-in-Comp c = λ contents store h.
    visit_args contents c.args.number c.args.end c.args.work.now.items _ c.in-Comp.name c.in-Comp.first c.in-Comp.count h c.in-Comp.is c.in_ok-push_places-in-Comp.ensures
