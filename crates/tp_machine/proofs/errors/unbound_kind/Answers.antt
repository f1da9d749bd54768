use Rattle.tp_machine.proofs.Gives.Raised.{unbound_built}
use Rattle.tp_machine.proofs.errors.unbound_kind.Goals as goal

pub returns-clause-built : goal.returns-clause-built
returns-clause-built c names table named =
    unbound_built names table c.args.store.now c.place.new.self c.in_ok-kind.ensures.keeps c.in_ok-kind.ensures.store named c.in_ok-kind.kind c.in_ok-kind.ensures.place c.in_ok-kind.ensures.value
