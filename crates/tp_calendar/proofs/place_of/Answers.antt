use Rattle.std.proofs.Common.{rules}
use Rattle.std.proofs.lemmas.List.Sorted.{IsPartitionPoint-from_clause}
use Rattle.tp_calendar.specs.Order.{goes_before}
use Rattle.tp_calendar.proofs.PutBack.{ordered-parted}
use Rattle.tp_calendar.proofs.place_of.Goals as goal

pub returns-clause-place : goal.returns-clause-place
returns-clause-place c =
    IsPartitionPoint-from_clause (λ f. goes_before f c.args.slot) c.args.slots.now.items c.partition_point.result c.partition_point.ensures.partitioned
    (ordered-parted c.args.slot c.args.slots.now.items c.requires) (λ a r q k. search rules)
