use Rattle.std.proofs.Common.{◌∙◌, ℕ, List, All, flat_map, map, ap, subst, sym}
use Rattle.tp_meters.specs.declared.MeterKind.{MeterKind}
use Rattle.tp_terms.proofs.Texts.Added.{Adds-as}
use Rattle.tp_engine.specs.Told.{world_in}
use Rattle.tp_top.specs.Metered.{counted, meter_line, meter_lines, TellsFew}
use Rattle.tp_top.proofs.Metering.Histories.{hold_few, hold_lines}
use Rattle.tp_top.proofs.meters.VecBoxDynMeterCounting.count.Goals as goal

pub add_meters-requires : goal.add_meters-requires
add_meters-requires g c =
    let history = (world_in c.args.view.now).history in
    subst (All (λ b. TellsFew ((goal.Meter-dyn g (b.vtable, b.value)).kind_of b.value) ((goal.Meter-dyn g (b.vtable, b.value)).state b.value))) (sym c.as_slice.ensures.value)
    (hold_few (λ b. (goal.Meter-dyn g (b.vtable, b.value)).kind_of b.value) (λ b. (goal.Meter-dyn g (b.vtable, b.value)).state b.value) history c.count.new.meters.items
    (c.count.ensures.numbers ∙ ap (map (counted history)) (sym c.count.ensures.kinds)))

pub returns-clause-added : goal.returns-clause-added
returns-clause-added g c =
    let history = (world_in c.args.view.now).history in
    Adds-as c.add_meters.result c.args.out.now c.add_meters.new.out _ _
    (ap (flat_map (λ b. meter_line ((goal.Meter-dyn g (b.vtable, b.value)).kind_of b.value) ((goal.Meter-dyn g (b.vtable, b.value)).state b.value))) c.as_slice.ensures.value
    ∙ hold_lines (λ b. (goal.Meter-dyn g (b.vtable, b.value)).kind_of b.value) (λ b. (goal.Meter-dyn g (b.vtable, b.value)).state b.value) history c.count.new.meters.items
    (c.count.ensures.numbers ∙ ap (map (counted history)) (sym c.count.ensures.kinds))
    ∙ ap (λ kinds. meter_lines kinds history) c.count.ensures.kinds)
    c.add_meters.ensures.added
