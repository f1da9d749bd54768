use Rattle.std.proofs.Common.{◌≡◌, drop}
use Rattle.std.specs.List.{position_from}
use Rattle.tp_machine.specs.Trying.{hits_at}
use Rattle.tp_machine.proofs.machine.Machine.next_match.Given as goal

-- no clause so far has a unifier with the goal
abbrev pub invariant-loop-k : goal.invariant-loop-k
invariant-loop-k l = record {
  same : l.self ≡ l.fn.self;
  found : position_from (hits_at l.fn.self l.goal) l.k (drop l.k l.ids) ≡ position_from (hits_at l.fn.self l.goal) 0 l.ids;
}
