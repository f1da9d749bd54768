use Rattle.std.proofs.Common.{sym, ap, ◌∙◌}
use Rattle.tp_meaning.specs.Process.{is_inf}
use Rattle.tp_store.proofs.Standing.Facts.{value-unbound}
use Rattle.tp_machine.proofs.Step.Making.{inf_atom}
use Rattle.tp_machine.proofs.machine.Machine.is_inf.Goals as goal

pub returns-in-Var : goal.returns-in-Var
returns-in-Var c =
    let m = c.args.self.now in
    sym (ap is_inf (sym (c.in-Var.ensures.seen m.atoms) ∙ value-unbound m.atoms m.state.store c.in-Var.field-0 c.requires.machine.stands.store c.in-Var.ensures.unbound))

pub returns-in-Int : goal.returns-in-Int
returns-in-Int c = let m = c.args.self.now in sym (ap is_inf (sym (c.in-Int.ensures.seen m.atoms)))

pub returns-in-Atom : goal.returns-in-Atom
returns-in-Atom c =
    let m = c.args.self.now in
    sym (ap is_inf (sym (c.in-Atom.ensures.seen m.atoms)) ∙ inf_atom m.atoms c.requires.machine.program.table c.in-Atom.name.at (c.in-Atom.ensures.named _ c.requires.machine.stands.atoms))

pub returns-in-Comp : goal.returns-in-Comp
returns-in-Comp c = let m = c.args.self.now in sym (ap is_inf (sym (c.in-Comp.ensures.seen m.atoms)))
