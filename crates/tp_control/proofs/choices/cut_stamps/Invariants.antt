use Rattle.std.proofs.Common.{◌≡◌, length, take, filter}
use Rattle.tp_control.specs.Stamps.{is_before, StampsRise}
use Rattle.tp_control.proofs.choices.cut_stamps.Given as goal

-- the newer ones that are gone so far wouldn't be kept
abbrev pub invariant-loop-choice : goal.invariant-loop-choice
invariant-loop-choice l = record {
  rise : StampsRise l.choices.items;
  kept : filter (is_before l.stamp) l.choices.items ≡ filter (is_before l.stamp) l.fn.choices.items;
  oldest : l.choices.items ≡ take (length l.choices.items) l.fn.choices.items;
}

abbrev pub decreases-loop-choice : goal.decreases-loop-choice
decreases-loop-choice l = length l.choices.items
