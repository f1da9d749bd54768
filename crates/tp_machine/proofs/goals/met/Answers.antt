use Rattle.std.proofs.Common.{length, sym, ◌∙◌}
use Rattle.tp_store.proofs.Standing.Facts.{value-unbound}
use Rattle.tp_machine.proofs.Enters.GoalsMet.{atom_is, compound_is}
use Rattle.tp_machine.proofs.goals.met.Goals as goal

pub returns-in-Var : goal.returns-in-Var
returns-in-Var c names named = (c.in-Var.field-0, sym (c.in-Var.ensures.seen names) ∙ value-unbound names c.args.store.now c.in-Var.field-0 c.requires.store c.in-Var.ensures.unbound)

pub returns-in-Atom : goal.returns-in-Atom
returns-in-Atom c names named =
    atom_is names c.args.store.now c.args.goal c.in-Atom.name c.requires.goal (c.in-Atom.ensures.named (length names) named) (sym (c.in-Atom.ensures.seen names))

pub returns-in-Comp : goal.returns-in-Comp
returns-in-Comp c names named =
    compound_is names c.args.store.now c.args.goal c.in-Comp.first c.in-Comp.name c.in-Comp.count (c.in-Comp.ensures.named (length names) named) c.in-Comp.ensures.before.0 c.in-Comp.ensures.before.1 (sym (c.in-Comp.ensures.seen names))
