use Rattle.std.proofs.Common.{map, ap, sym, arith, [], ◌∷◌, ◌++◌, ◌∙◌, take, length, slice_get}
use Rattle.std.proofs.lemmas.List.{take_all}
use Rattle.tp_report.proofs.Parts.Joined.{not_past}
use Rattle.tp_top.proofs.Metering.Histories.{counted_more, folded, metered_in, next_event, none_counted}
use Rattle.tp_top.proofs.meters.count.Goals as goal
use Rattle.tp_top.proofs.meters.count.Goals.{in-Some, in_default}

pub places-init : goal.places-init
places-init g c = record {
  kinds = c.clear_all.ensures.kinds;
  states = λ names contents. c.clear_all.ensures.states ∙ none_counted _ c.args.meters.now.items;
}

pub places-preserved : goal.places-preserved
places-preserved g c =
    let events = c.args.view.now.plain.events in
    elim c.match-get.branch [
      | in-Some w ↦
          let here = ap (λ es. slice_get es c.places.at) (sym c.events-in-places.ensures) ∙ sym w.in-Some.ensures in
          let kinds = w.take_all.ensures.kinds ∙ c.places.invariant.kinds in
          record {
            kinds = ap (λ v. map (λ b. (goal.Meter-dyn g (b.vtable, b.value)).kind_of b.value) v.items) w.meters-is ∙ kinds;
            states = λ names contents.
                ap (λ v. map (λ b. (goal.Meter-dyn g (b.vtable, b.value)).state b.value) v.items) w.meters-is
                ∙ w.take_all.ensures.states
                ∙ counted_more _ _ c.places.meters.items _ (metered_in names contents (take c.places.at events)) w.metered.result c.places.invariant.kinds (c.places.invariant.states names contents)
                ∙ ap (λ e. folded e (map (λ b. (goal.Meter-dyn g (b.vtable, b.value)).kind_of b.value) c.args.meters.now.items))
                (ap (λ x. metered_in names contents (take c.places.at events) ++ x ∷ []) (w.metered.ensures names contents)
                ∙ sym (next_event names contents events c.places.at w.in-Some.event here));
          }
      | in_default w ↦
          absurd (not_past events c.places.at c.len-at-end.result (c.len-at-end.ensures ∙ ap length c.events.ensures) c.places-test.true
          (w.in_default.ensures ∙ ap (λ es. slice_get es c.places.at) c.events-in-places.ensures))
    ]

pub returns : goal.returns
returns g c =
    let s = c.args.view.now in
    let size = c.len-at-end.ensures ∙ ap length c.events.ensures in
    record {
      kinds = c.places.invariant.kinds;
      numbers =
          c.places.invariant.states s.names s.plain.store
          ∙ ap (λ es. folded (metered_in s.names s.plain.store es) (map (λ b. (goal.Meter-dyn g (b.vtable, b.value)).kind_of b.value) c.args.meters.now.items))
          (take_all c.places.at s.plain.events (omega (arith, size, c.places-test.false)));
    }
