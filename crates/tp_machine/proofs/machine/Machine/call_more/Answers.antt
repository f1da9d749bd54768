use Rattle.tp_machine.proofs.Enters.Calling.{more_there, unbound_refused, number_refused}
use Rattle.tp_machine.proofs.machine.Machine.call_more.Goals as goal

pub met-requires : goal.met-requires
met-requires c = record { goal = more_there c.args.self.now c.args.task c.args.call c.requires.call; store = c.requires.machine.stands.store }

pub raise-requires-clause-cause : goal.raise-requires-clause-cause
raise-requires-clause-cause c =
    let m = c.args.self.now in
    let found = c.in-Unbound.ensures m.atoms c.requires.machine.stands.atoms in
    unbound_refused m c.args.task c.args.call c.requires.call c.requires.more found.0 found.1

pub raise-requires-in-Number-clause-cause : goal.raise-requires-in-Number-clause-cause
raise-requires-in-Number-clause-cause c =
    let m = c.args.self.now in
    number_refused m c.args.task c.args.call c.requires.call c.requires.more _ (c.in-Number.ensures m.atoms c.requires.machine.stands.atoms)
