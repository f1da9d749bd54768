use Rattle.std.proofs.Common.{◌<◌, length, sym, subst, arith}
use Rattle.tp_machine.proofs.Step.Counted.{arguments_there, third_refused}
use Rattle.tp_machine.proofs.machine.Machine.between_bounds.Goals as goal

pub argument-place-requires : goal.argument-place-requires
argument-place-requires c = arguments_there c.args.self.now c.args.task c.args.call c.requires.bounds.calls 2 (omega arith)

pub met-requires-clause-goal : goal.met-requires-clause-goal
met-requires-clause-goal c =
    subst (λ k. k < length c.args.self.now.state.store.cells) (sym c.argument-place.ensures)
    (arguments_there c.args.self.now c.args.task c.args.call c.requires.bounds.calls 2 (omega arith))

pub raise-requires-clause-cause : goal.raise-requires-clause-cause
raise-requires-clause-cause c =
    let m = c.args.self.now in
    third_refused m c.args.task c.args.call c.args.bounds c.requires.bounds c.argument-place.result _ c.argument-place.ensures (c.in-Named.ensures m.atoms c.requires.machine.stands.atoms)
