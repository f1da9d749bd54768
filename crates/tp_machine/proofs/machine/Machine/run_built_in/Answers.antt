use Rattle.std.proofs.Common.{rules, ◌<◌, ◌^◌, length}
use Rattle.tp_machine.specs.BuiltIns.{Ran}
use Rattle.tp_machine.proofs.Gives.Raised.{if_ok}
use Rattle.tp_machine.proofs.Grows.Lent.{may_run, has_arguments, ran}
use Rattle.tp_machine.proofs.machine.Machine.run_built_in.Goals as goal

pub builtin-outcome-requires-clause-heap : goal.builtin-outcome-requires-clause-heap
builtin-outcome-requires-clause-heap c =
    may_run c.args.self.now c.requires.machine c.swap_terms.new.self c.swap_terms.ensures

pub builtin-outcome-requires-clause-arguments : goal.builtin-outcome-requires-clause-arguments
builtin-outcome-requires-clause-arguments c =
    let few : length c.args.self.now.state.store.cells < 2 ^ 64 = search rules in
    has_arguments c.args.self.now c.args._task c.args.call c.args.id c.requires.machine c.requires.call c.swap_terms.new.self c.swap_terms.ensures few

pub returns-clause-ran : goal.returns-clause-ran
returns-clause-ran c =
    let m = c.args.self.now in
    let s = c.swap_terms.new.self in
    let new = c.swap_terms-2.new.self in
    let v = c.builtin-outcome.new.terms in
    let e = c.builtin-outcome.ensures in
    if_ok _ (Ran m new c.args._task c.args.call c.args.id)
    (λ o d. ran m c.args._task c.args.call c.args.id c.requires.machine c.requires.call s new v o c.swap_terms.ensures c.swap_terms-2.ensures d e.grows e.heap c.mark-mark.ensures.store)
    c.builtin-outcome.result e.does
