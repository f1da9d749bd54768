use Rattle.std.proofs.Common.{◌≡◌}
use Rattle.tp_clauses.specs.Candidates.{same_first_key}
use Rattle.tp_clauses.specs.Indexed.{ids_in}
use Rattle.tp_clauses.specs.Parts.{contents_of}
use Rattle.tp_clauses.specs.declared.first.FirstKey.{FirstKey}
use Rattle.tp_clauses.proofs.Lists.Grouped.{group_of}
use Rattle.tp_clauses.proofs.candidates.grouped.Given as goal

abbrev pub invariant-loop-at : goal.invariant-loop-at
invariant-loop-at l = record {
  groups : (k : FirstKey) → ids_in same_first_key l.groups k ≡ group_of (contents_of l.parts) l.at k;
}
