use Rattle.std.proofs.Common.{sym, subst, SFits, w64, rules}
use Rattle.std.proofs.lemmas.Int.{to_z-of_z}
use Rattle.tp_machine.specs.declared.errors.Cause.TheVariants.{Number}
use Rattle.tp_machine.specs.Meets.{IsCause, IsMet}
use Rattle.tp_machine.proofs.Step.Raise.{number_cause, unbound_cause}
use Rattle.tp_machine.proofs.machine.Machine.meet.Goals as goal

pub raise-requires-clause-cause : goal.raise-requires-clause-cause
raise-requires-clause-cause c =
    let m = c.args.self.now in
    unbound_cause m c.args.task (subst (λ r. IsMet m.atoms m.state.store c.args.task.goal r) c.in-Unbound.is (c.met.ensures m.atoms c.requires.machine.stands.atoms))

pub raise-requires-in-Number-clause-cause : goal.raise-requires-in-Number-clause-cause
raise-requires-in-Number-clause-cause c =
    let m = c.args.self.now in
    let fits : SFits w64 c.in-Number.value = search rules in
    subst (λ z. IsCause m c.args.task (Number z)) (sym (to_z-of_z w64 c.in-Number.value fits))
    (number_cause m c.args.task c.in-Number.value (subst (λ r. IsMet m.atoms m.state.store c.args.task.goal r) c.in-Number.is (c.met.ensures m.atoms c.requires.machine.stands.atoms)))
