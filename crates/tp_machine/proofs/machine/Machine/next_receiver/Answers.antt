use Rattle.std.proofs.Common.{◌≡◌, true, length, sym, ◌∙◌}
use Rattle.tp_store.proofs.Standing.Facts.{value-unbound}
use Rattle.tp_machine.proofs.Step.Receiving.{element_is, ends_atom, ends_comp, ends_empty, ends_int, ends_unbound}
use Rattle.tp_machine.proofs.machine.Machine.next_receiver.Goals as goal

pub element-requires-clause-at : goal.element-requires-clause-at
element-requires-clause-at c =
    let m = c.args.self.now in
    element_is m c.args.list c.args.at c.requires.list c.requires.machine c.in-Comp.name (c.in-Comp.ensures.named (length m.atoms) c.requires.machine.stands.atoms) c.in-Comp.first c.in-Comp.count (sym (c.in-Comp.ensures.seen m.atoms)) (c.is_list_cell.ensures.0 c.if-is_list_cell.true)

pub returns-else-is_list_cell : goal.returns-else-is_list_cell
returns-else-is_list_cell c =
    let m = c.args.self.now in
    ends_comp m c.args.list c.args.at c.requires.list c.requires.machine c.in-Comp.name (c.in-Comp.ensures.named (length m.atoms) c.requires.machine.stands.atoms) c.in-Comp.first c.in-Comp.count (sym (c.in-Comp.ensures.seen m.atoms))
    (λ p q. let t : c.is_list_cell.result ≡ true = c.is_list_cell.ensures.1 (p, q) in let f = c.if-is_list_cell.false in absurd (cc))

pub returns-then-name : goal.returns-then-name
returns-then-name c =
    let m = c.args.self.now in
    ends_empty m c.args.list c.args.at c.requires.list c.requires.machine c.in-Atom.name (c.in-Atom.ensures.named (length m.atoms) c.requires.machine.stands.atoms) (sym (c.in-Atom.ensures.seen m.atoms)) c.if-name.true

pub returns-else-name : goal.returns-else-name
returns-else-name c =
    let m = c.args.self.now in
    ends_atom m c.args.list c.args.at c.requires.list c.requires.machine c.in-Atom.name (c.in-Atom.ensures.named (length m.atoms) c.requires.machine.stands.atoms) (sym (c.in-Atom.ensures.seen m.atoms)) c.if-name.false

pub returns-in-Var : goal.returns-in-Var
returns-in-Var c =
    let m = c.args.self.now in
    ends_unbound m c.args.list c.args.at c.requires.list c.in-Var.field-0 (sym (c.in-Var.ensures.seen m.atoms) ∙ value-unbound m.atoms m.state.store c.in-Var.field-0 c.requires.machine.stands.store c.in-Var.ensures.unbound)

pub returns-in-Int : goal.returns-in-Int
returns-in-Int c =
    let m = c.args.self.now in
    ends_int m c.args.list c.args.at c.requires.list c.in-Int.field-0 (sym (c.in-Int.ensures.seen m.atoms))
