use Rattle.std.proofs.Common.{chars, string_bytes, drop, flat_map}
use Rattle.tp_meters.specs.Meters.{told}
use Rattle.tp_terms.specs.Added.{Progress}
use Rattle.tp_top.specs.Metered.{number_text}
use Rattle.tp_top.proofs.meters.add_numbers.Given as goal

-- all but the numbers from this place on were added
abbrev pub invariant-numbers : goal.invariant-numbers
invariant-numbers g l =
    let meter = goal.Meter-dyn g (l.meter.vtable, l.meter.value) in
    let numbers = told (meter.kind_of l.meter.value) (meter.state l.meter.value) in
    Progress (chars (string_bytes l.fn.out)) (chars (string_bytes l.out)) (flat_map number_text numbers) (flat_map number_text (drop l.at numbers))
