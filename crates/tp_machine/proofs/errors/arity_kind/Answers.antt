use Rattle.std.proofs.Common.{subst, arith}
use Rattle.tp_machine.specs.Built.{Built}
use Rattle.tp_machine.proofs.Gives.Raised.{is_too_many, name_within}
use Rattle.tp_machine.proofs.errors.arity_kind.Goals as goal

pub returns-clause-built : goal.returns-clause-built
returns-clause-built c names table named =
    subst (Built names c.args.store.now c.word_kind.new.store c.in_ok-kind.kind.at) (is_too_many names table)
    (c.in_ok-kind.ensures.built names table named (name_within names table 84 (omega arith)) (name_within names table 96 (omega arith)))
