use Rattle.std.proofs.Common.{sym, ◌∙◌}
use Rattle.tp_store.proofs.Standing.Facts.{value-unbound}
use Rattle.tp_machine.proofs.Step.Making.{free_compound, free_number, free_unbound}
use Rattle.tp_machine.proofs.machine.Machine.free_name.Goals as goal

pub returns-in-Var : goal.returns-in-Var
returns-in-Var c =
    let m = c.args.self.now in
    free_unbound m c.requires.machine c.args.place c.requires.place c.in-Var.field-0
    (sym (c.in-Var.ensures.seen m.atoms) ∙ value-unbound m.atoms m.state.store c.in-Var.field-0 c.requires.machine.stands.store c.in-Var.ensures.unbound)

pub returns-in-Int : goal.returns-in-Int
returns-in-Int c =
    let m = c.args.self.now in
    free_number m c.requires.machine c.args.place c.requires.place _ (sym (c.in-Int.ensures.seen m.atoms))

pub returns-in-Comp : goal.returns-in-Comp
returns-in-Comp c =
    let m = c.args.self.now in
    free_compound m c.requires.machine c.args.place c.requires.place _ _ (sym (c.in-Comp.ensures.seen m.atoms))

pub unused-requires-clause-within : goal.unused-requires-clause-within
unused-requires-clause-within c = c.in-Atom.ensures.named _ c.requires.machine.stands.atoms

pub unused-requires-clause-shows : goal.unused-requires-clause-shows
unused-requires-clause-shows c = sym (c.in-Atom.ensures.seen c.args.self.now.atoms)
