use Rattle.std.proofs.Common.{◌<◌, ◌∙◌, ap, arith, length}
use Rattle.tp_meters.specs.Meters.{meter_next}
use Rattle.tp_top.proofs.Metering.Boxes.{map-set_same, rest_stays, same_at, front_grows, same_length}
use Rattle.tp_top.proofs.boxed.take_all.Goals as goal

pub loop-meter-preserved : goal.loop-meter-preserved
loop-meter-preserved g c =
    let lt : c.loop-meter.meter-index < length c.loop-meter.meter-items = omega arith in
    let lt' : c.loop-meter.meter-index < length c.args.meters.now.items = omega (arith, same_length _ c.loop-meter.meter-items c.args.meters.now.items c.loop-meter.invariant.kinds) in
    record {
      kinds = map-set_same _ c.loop-meter.meter-items c.loop-meter.meter-index _ c.meter-item.result lt
          c.take_boxed.ensures.kind ∙ c.loop-meter.invariant.kinds;
      states = front_grows _ _ c.loop-meter.meter-items c.args.meters.now.items c.loop-meter.meter-index _ c.meter-item.result lt lt' c.loop-meter.invariant.states
          (c.take_boxed.ensures.state ∙ ap (λ b. meter_next ((goal.Meter-dyn g (b.vtable, b.value)).kind_of b.value) ((goal.Meter-dyn g (b.vtable, b.value)).state b.value) c.args.event.now) (same_at c.loop-meter.meter-items c.args.meters.now.items c.loop-meter.meter-index c.meter-item.result c.loop-meter.invariant.rest));
      rest = rest_stays c.loop-meter.meter-items c.args.meters.now.items c.loop-meter.meter-index _ c.loop-meter.invariant.rest;
    }
