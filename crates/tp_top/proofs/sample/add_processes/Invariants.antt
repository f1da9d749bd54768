use Rattle.std.proofs.Common.{◌≡◌, ◌≤◌, ◌++◌, flat_map, string_bytes}
use Rattle.std.specs.List.{range_with_len}
use Rattle.tp_top.specs.Sample.{process_clause}
use Rattle.tp_top.proofs.sample.add_processes.Given as goal

-- the clauses of the processes before this one were added
abbrev pub invariant-processes : goal.invariant-processes
invariant-processes l =
    (l.before ≤ l.followed)
    × (string_bytes l.text ≡ string_bytes l.fn.text ++ flat_map process_clause (range_with_len 1 l.before))
