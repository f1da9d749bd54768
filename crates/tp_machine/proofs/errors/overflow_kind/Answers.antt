use Rattle.std.proofs.Common.{subst, arith}
use Rattle.tp_machine.specs.Built.{Built}
use Rattle.tp_machine.proofs.Gives.Raised.{is_overflow, name_within}
use Rattle.tp_machine.proofs.errors.overflow_kind.Goals as goal

pub returns-clause-built : goal.returns-clause-built
returns-clause-built c names table named =
    subst (Built names c.args.store.now c.word_kind.new.store c.in_ok-kind.kind.at) (is_overflow names table)
    (c.in_ok-kind.ensures.built names table named (name_within names table 85 (omega arith)) (name_within names table 98 (omega arith)))
