use Rattle.std.proofs.Common.{◌<◌, length, sym, subst, arith}
use Rattle.tp_machine.proofs.Step.Counted.{arguments_there, first_there, high_refused, low_refused}
use Rattle.tp_machine.proofs.machine.Machine.bounds.Goals as goal

pub integer_at-requires-clause-place : goal.integer_at-requires-clause-place
integer_at-requires-clause-place c = first_there c.args.self.now c.args._task c.args.call c.requires.call

pub returns-in-Err : goal.returns-in-Err
returns-in-Err c = low_refused c.args.self.now c.args._task c.args.call c.requires.call c.in-Err.why c.in-Err.ensures

pub argument-requires : goal.argument-requires
argument-requires c = arguments_there c.args.self.now c.args._task c.args.call c.requires.call 1 (omega arith)

pub integer_at-requires-2-clause-place : goal.integer_at-requires-2-clause-place
integer_at-requires-2-clause-place c =
    subst (λ k. k < length c.args.self.now.state.store.cells) (sym c.argument.ensures)
    (arguments_there c.args.self.now c.args._task c.args.call c.requires.call 1 (omega arith))

pub returns-in-Err-integer_at : goal.returns-in-Err-integer_at
returns-in-Err-integer_at c =
    high_refused c.args.self.now c.args._task c.args.call c.requires.call c.in-Ok.low c.in-Ok.ensures c.argument.result c.in-Err-integer_at.why c.argument.ensures c.in-Err-integer_at.ensures
