use Rattle.std.proofs.Common.{ap, append_assoc, chars, codes, flat_map, string_bytes, sym, ◌++◌, ◌∙◌}
use Rattle.tp_meters.specs.Meters.{told}
use Rattle.tp_terms.proofs.Texts.Added.{Adds-none}
use Rattle.tp_report.proofs.Parts.Calls.{second_stops, third_adds}
use Rattle.tp_top.specs.Metered.{head_of, number_text}
use Rattle.tp_top.proofs.Metering.Histories.{head-chars}
use Rattle.tp_top.proofs.meters.add_meter.Goals as goal

pub returns : goal.returns
returns g c =
    let meter = goal.Meter-dyn g (c.args.meter.now.vtable, c.args.meter.now.value) in
    let kind = meter.kind_of c.args.meter.now.value in
    let numbers = flat_map number_text (told kind (meter.state c.args.meter.now.value)) in
    let head = ap chars (c.head_of.ensures ∙ ap head_of c.boxed_kind.ensures) ∙ head-chars kind in
    record {
      added =
          third_adds c.push_char.result c.args.out.now c.push_text.new.out c.add_numbers.new.out c.push_char.new.out _ (head_of kind) numbers (codes "\n")
          (sym (append_assoc (head_of kind) numbers (codes "\n")))
          (c.in_ok-push_text.ensures.added ∙ ap (λ x. chars (string_bytes c.args.out.now) ++ x) head)
          c.in_ok-add_numbers.ensures.added c.push_char.ensures.added;
    }

pub returns-in_err-push_text : goal.returns-in_err-push_text
returns-in_err-push_text g c = record {
  added = Adds-none _ _ c.args.out.now c.push_text.new.out _ c.from_residual.ensures.1 c.in_err-push_text.ensures.err;
}

pub returns-in_err-add_numbers : goal.returns-in_err-add_numbers
returns-in_err-add_numbers g c =
    let meter = goal.Meter-dyn g (c.args.meter.now.vtable, c.args.meter.now.value) in
    let kind = meter.kind_of c.args.meter.now.value in
    let numbers = flat_map number_text (told kind (meter.state c.args.meter.now.value)) in
    let head = ap chars (c.head_of.ensures ∙ ap head_of c.boxed_kind.ensures) ∙ head-chars kind in
    record {
      added =
          second_stops _ _ c.args.out.now c.push_text.new.out c.add_numbers.new.out _ (head_of kind) numbers (codes "\n")
          (sym (append_assoc (head_of kind) numbers (codes "\n"))) c.from_residual-in_err-add_numbers.ensures.1
          (c.in_ok-push_text.ensures.added ∙ ap (λ x. chars (string_bytes c.args.out.now) ++ x) head)
          c.in_err-add_numbers.ensures.added;
    }
