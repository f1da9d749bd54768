use Rattle.std.proofs.Common.{◌≡◌, map, drop}
use Rattle.std.specs.Str.{chars}
use Rattle.tp_parse.specs.Ops.{table_of}
use Rattle.tp_parse.specs.Start.{with_operators}
use Rattle.tp_parse.proofs.table.set_all.Given as goal

-- the table so far with the operators that are left is the table with all
abbrev pub invariant-loop-priority : goal.invariant-loop-priority
invariant-loop-priority l =
    with_operators (table_of l.ops) (map (λ o. (o.0, o.1, chars (o.2).now)) (drop l.priority-index l.operators))
    ≡ with_operators (table_of l.fn.ops) (map (λ o. (o.0, o.1, chars (o.2).now)) l.operators)
