use Rattle.std.proofs.Common.{sym, ◌∙◌}
use Rattle.tp_store.proofs.Standing.Facts.{value-unbound}
use Rattle.tp_machine.proofs.Enters.Entered.{refuses_unbound}
use Rattle.tp_machine.proofs.enter.enter.Goals as goal

pub returns-in-Var-clause-entered : goal.returns-in-Var-clause-entered
returns-in-Var-clause-entered c names table named =
    let old = c.args.state.now.store in
    let v = c.in-Var.field-0 in
    refuses_unbound names old c.args.goal v (sym (c.in-Var.ensures.seen names) ∙ value-unbound names old v c.mark-mark.ensures.store c.in-Var.ensures.unbound)
