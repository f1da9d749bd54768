use Rattle.std.proofs.Common.{rules, of_calls, nat_le}
use Rattle.std.proofs.lemmas.Fn.{always_returns_same}
use Rattle.tp_clauses.specs.declared.base.ClauseId.{ClauseId}
use Rattle.tp_machine.proofs.Trying.Split.{rises-parted, split-behind}
use Rattle.tp_machine.proofs.candidates.behind.Goals as goal

pub returns : goal.returns
returns c =
    let ids = c.args.ids.now in
    let id = c.args.id in
    split-behind (λ (other : ClauseId). nat_le other.at id.at) ids c.partition_point-count.result
    (c.partition_point-count.ensures.partitioned (λ (other : ClauseId). nat_le other.at id.at) (always_returns_same _ _ _ (λ a r f k. search (rules, of_calls)))
    (rises-parted 0 ids id.at c.requires))
