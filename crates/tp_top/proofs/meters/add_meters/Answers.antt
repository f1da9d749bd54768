use Rattle.std.proofs.Common.{ap, drop, flat_map, sym, ◌+◌, ◌++◌, ◌∙◌}
use Rattle.tp_report.proofs.Parts.Calls.{part_stops}
use Rattle.tp_report.proofs.Parts.Joined.{left-at}
use Rattle.tp_top.specs.Metered.{meter_line}
use Rattle.tp_top.proofs.meters.add_meters.Goals as goal

pub returns-in_err-add_meter : goal.returns-in_err-add_meter
returns-in_err-add_meter g c =
    let left = flat_map (λ b. meter_line ((goal.Meter-dyn g (b.vtable, b.value)).kind_of b.value) ((goal.Meter-dyn g (b.vtable, b.value)).state b.value)) (drop (c.loop-meter.meter-index + 1) c.args.meters.now) in
    record {
      added =
          part_stops _ _ c.args.out.now c.loop-meter.out c.add_meter.new.out _ _ _ _ c.loop-meter.invariant
          (left-at (λ b. meter_line ((goal.Meter-dyn g (b.vtable, b.value)).kind_of b.value) ((goal.Meter-dyn g (b.vtable, b.value)).state b.value))
          c.args.meters.now c.loop-meter.meter-index c.meter-item.result c.loop-meter-test.true
          ∙ ap (λ b. meter_line ((goal.Meter-dyn g (b.vtable, b.value)).kind_of b.value) ((goal.Meter-dyn g (b.vtable, b.value)).state b.value) ++ left) (sym c.meter-item.is))
          c.from_residual.ensures.1 c.in_err-add_meter.ensures.added;
    }
