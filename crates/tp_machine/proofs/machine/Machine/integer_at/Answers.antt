use Rattle.tp_machine.proofs.Step.Counted.{given_unbound}
use Rattle.tp_machine.proofs.machine.Machine.integer_at.Goals as goal

pub returns-in-Unbound : goal.returns-in-Unbound
returns-in-Unbound c = given_unbound _ (c.in-Unbound.ensures c.args.self.now.atoms c.requires.machine.stands.atoms)
