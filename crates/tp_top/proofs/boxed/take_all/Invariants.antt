use Rattle.std.proofs.Common.{◌≡◌, take, drop, map}
use Rattle.tp_meters.specs.Meters.{meter_next}
use Rattle.tp_top.proofs.boxed.take_all.Given as goal

-- the meters up to the index were changed, and the others stand as they were
abbrev pub invariant-loop-meter : goal.invariant-loop-meter
invariant-loop-meter g l = record {
  kinds : map (λ b. (goal.Meter-dyn g (b.vtable, b.value)).kind_of b.value) l.meter-items ≡ map (λ b. (goal.Meter-dyn g (b.vtable, b.value)).kind_of b.value) l.fn.meters.items;
  states : map (λ b. (goal.Meter-dyn g (b.vtable, b.value)).state b.value) (take l.meter-index l.meter-items)
      ≡ map (λ b. meter_next ((goal.Meter-dyn g (b.vtable, b.value)).kind_of b.value) ((goal.Meter-dyn g (b.vtable, b.value)).state b.value) l.event) (take l.meter-index l.fn.meters.items);
  rest : drop l.meter-index l.meter-items ≡ drop l.meter-index l.fn.meters.items;
}
