use Rattle.std.proofs.Common.{length, sym, subst, IfOk}
use Rattle.tp_meaning.specs.Checks.{Checked}
use Rattle.std.proofs.Common.{ℕ, List}
use Rattle.tp_machine.specs.Sending.{AreReceivers}
use Rattle.tp_machine.proofs.Step.Receiving.{receivers_list}
use Rattle.tp_machine.proofs.machine.Machine.receivers.Goals as goal

pub receivers_of_atom-requires-clause-name : goal.receivers_of_atom-requires-clause-name
receivers_of_atom-requires-clause-name c = c.in-Atom.ensures.named (length c.args.self.now.atoms) c.requires.machine.stands.atoms

pub receivers_of_atom-requires-clause-is : goal.receivers_of_atom-requires-clause-is
receivers_of_atom-requires-clause-is c = sym (c.in-Atom.ensures.seen c.args.self.now.atoms)

pub returns-in_default : goal.returns-in_default
returns-in_default c =
    let m = c.args.self.now in
    subst (λ (r : Checked (List ℕ)). IfOk c.receivers_of_list.result (AreReceivers m r))
    (sym (receivers_list m c.args.to c.requires.to c.top.result c.requires.machine.stands.store (c.top.ensures.seen m.atoms) c.top.ensures.unbound c.in_default.not-Atom)) c.receivers_of_list.ensures
