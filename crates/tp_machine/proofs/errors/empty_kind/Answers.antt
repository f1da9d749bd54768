use Rattle.std.proofs.Common.{subst, arith}
use Rattle.tp_machine.specs.Built.{Built}
use Rattle.tp_machine.proofs.Gives.Raised.{is_empty_name, name_within}
use Rattle.tp_machine.proofs.errors.empty_kind.Goals as goal

pub returns-clause-built : goal.returns-clause-built
returns-clause-built c names table named =
    subst (Built names c.args.store.now c.culprit_kind.new.store c.in_ok-kind.kind.at) (is_empty_name names table)
    (c.in_ok-kind.ensures.built names table named (name_within names table 1 (omega arith)) (name_within names table 81 (omega arith)) (name_within names table 93 (omega arith)))
