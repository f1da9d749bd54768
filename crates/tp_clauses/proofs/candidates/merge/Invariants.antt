use Rattle.std.proofs.Common.{◌≡◌, ◌++◌, ◌-◌, ◌≤◌, length, drop}
use Rattle.tp_clauses.specs.Candidates.{merged}
use Rattle.tp_clauses.proofs.candidates.merge.Given as goal

abbrev pub invariant-loop-count : goal.invariant-loop-count
invariant-loop-count l = record {
  so_far : l.ids.items ++ merged (drop l.at l.own) (drop (l.count - l.at) l.others) ≡ l.fn.ids.items ++ merged l.own l.others;
  before : l.at ≤ l.count;
  own : l.at ≤ length l.own;
  others : l.count - l.at ≤ length l.others;
}
