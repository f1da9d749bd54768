use Rattle.std.proofs.Common.{length, sym, ◌∙◌}
use Rattle.tp_store.proofs.Standing.Facts.{value-unbound}
use Rattle.tp_machine.proofs.Step.Receiving.{names_other, names_unbound}
use Rattle.tp_machine.proofs.machine.Machine.receiver.Goals as goal

pub returns-in-Var : goal.returns-in-Var
returns-in-Var c =
    let m = c.args.self.now in
    names_unbound m c.args.at c.requires.at c.in-Var.field-0 (sym (c.in-Var.ensures.seen m.atoms) ∙ value-unbound m.atoms m.state.store c.in-Var.field-0 c.requires.machine.stands.store c.in-Var.ensures.unbound)

pub process_named-requires-clause-name : goal.process_named-requires-clause-name
process_named-requires-clause-name c = c.in-Atom.ensures.named (length c.args.self.now.atoms) c.requires.machine.stands.atoms

pub process_named-requires-clause-is : goal.process_named-requires-clause-is
process_named-requires-clause-is c = sym (c.in-Atom.ensures.seen c.args.self.now.atoms)

pub returns-in_default : goal.returns-in_default
returns-in_default c =
    let m = c.args.self.now in
    names_other m c.args.at c.requires.at c.top.result (c.top.ensures.seen m.atoms) c.in_default.not-Var c.in_default.not-Atom
