use Rattle.std.proofs.Common.{◌<◌, length, sym, subst, arith}
use Rattle.tp_meaning.specs.declared.goals.ProcessGoal.TheVariants.{New}
use Rattle.tp_machine.proofs.Step.Acting.{first_there}
use Rattle.tp_machine.proofs.Step.Making.{new_named, new_number, new_there, new_unbound}
use Rattle.tp_machine.proofs.machine.Machine.new_name.Goals as goal

pub met-requires-clause-goal : goal.met-requires-clause-goal
met-requires-clause-goal c = first_there c.args.self.now c.args._task c.args.call New c.requires.call

pub returns-in-Unbound : goal.returns-in-Unbound
returns-in-Unbound c =
    let e = c.in-Unbound.ensures c.args.self.now.atoms c.requires.machine.stands.atoms in
    new_unbound c.args.self.now c.args._task c.args.call c.requires.call e.0 e.1

pub returns-in-Number : goal.returns-in-Number
returns-in-Number c =
    new_number c.args.self.now c.args._task c.args.call c.requires.call _ (c.in-Number.ensures c.args.self.now.atoms c.requires.machine.stands.atoms)

pub argument-requires : goal.argument-requires
argument-requires c = new_there c.args.self.now c.args._task c.args.call c.requires.call 1 (omega arith)

pub free_name-requires-clause-place : goal.free_name-requires-clause-place
free_name-requires-clause-place c =
    subst (λ k. k < length c.args.self.now.state.store.cells) (sym c.argument.ensures) (new_there c.args.self.now c.args._task c.args.call c.requires.call 1 (omega arith))

pub returns-in-Named : goal.returns-in-Named
returns-in-Named c =
    new_named c.args.self.now c.args._task c.args.call c.requires.call _ c.argument.result c.free_name.result (c.in-Named.ensures c.args.self.now.atoms c.requires.machine.stands.atoms) c.argument.ensures c.free_name.ensures
