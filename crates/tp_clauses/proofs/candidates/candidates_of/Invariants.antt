use Rattle.std.proofs.Common.{◌≡◌, take}
use Rattle.tp_clauses.specs.Candidates.{AreWithin, listed_in}
use Rattle.tp_clauses.specs.Indexed.{keys_in}
use Rattle.tp_clauses.specs.Parts.{contents_of}
use Rattle.tp_clauses.specs.declared.first.FirstKey.{FirstKey}
use Rattle.tp_clauses.proofs.Lists.Grouped.{kept_so_far}
use Rattle.tp_clauses.proofs.candidates.candidates_of.Given as goal

abbrev pub invariant-loop-at : goal.invariant-loop-at
invariant-loop-at l = record {
  within : AreWithin l.candidates;
  kept : (k : FirstKey) → listed_in l.candidates k ≡ kept_so_far (contents_of l.parts) (take l.at (keys_in l.groups)) k;
}
