use Rattle.tp_machine.proofs.Gives.Raised.{built_trans}
use Rattle.tp_machine.specs.Causes.{kind_term}
use Rattle.tp_machine.proofs.errors.raised.Goals as goal

pub returns : goal.returns
returns c names table named stands within =
    let first = c.in_ok-kind.ensures.built names table named stands in
    built_trans names c.args.store.now c.kind_of.new.store c.error.new.store c.in_ok-kind.kind.at c.in_ok-place.place.at c.args.process (kind_term names c.args.store.now.cells c.args.cause) first (c.in_ok-place.ensures names table first.named within)
