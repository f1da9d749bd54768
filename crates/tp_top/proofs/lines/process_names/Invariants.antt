use Rattle.std.proofs.Common.{◌≡◌, map, take}
use Rattle.tp_top.proofs.lines.process_names.Given as goal

abbrev pub invariant-processes : goal.invariant-processes
invariant-processes l = l.names.items ≡ take l.pid (map (λ q. q.name) l.view.plain.procs)
