use Rattle.std.proofs.Common.{chars, string_bytes, drop, flat_map}
use Rattle.tp_terms.specs.Added.{Progress}
use Rattle.tp_top.specs.Metered.{meter_line}
use Rattle.tp_top.proofs.meters.add_meters.Given as goal

-- all but the lines of the meters from this place on were added
abbrev pub invariant-loop-meter : goal.invariant-loop-meter
invariant-loop-meter g l =
    Progress (chars (string_bytes l.fn.out)) (chars (string_bytes l.out))
    (flat_map (λ b. meter_line ((goal.Meter-dyn g (b.vtable, b.value)).kind_of b.value) ((goal.Meter-dyn g (b.vtable, b.value)).state b.value)) l.meters)
    (flat_map (λ b. meter_line ((goal.Meter-dyn g (b.vtable, b.value)).kind_of b.value) ((goal.Meter-dyn g (b.vtable, b.value)).state b.value)) (drop l.meter-index l.meters))
