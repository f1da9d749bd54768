use Rattle.std.proofs.Common.{ap, chars, flat_map, drop, string_bytes, subst, sym, arith, ◌+◌, ◌∙◌}
use Rattle.tp_meters.specs.Meters.{told}
use Rattle.tp_terms.specs.Added.{Progress}
use Rattle.tp_terms.proofs.Texts.Added.{goes}
use Rattle.tp_report.proofs.Parts.Calls.{part_stops}
use Rattle.tp_report.proofs.Parts.Joined.{left-next, left-none}
use Rattle.tp_top.specs.Metered.{number_text}
use Rattle.tp_top.proofs.Metering.Histories.{ends_before}
use Rattle.tp_top.proofs.meters.add_numbers.Goals as goal
use Rattle.tp_top.proofs.meters.add_numbers.Goals.{in-Some+in_ok-add_number, in_default}

pub returns-in_err-add_number : goal.returns-in_err-add_number
returns-in_err-add_number g c =
    let meter = goal.Meter-dyn g (c.args.meter.now.vtable, c.args.meter.now.value) in
    let numbers = told (meter.kind_of c.args.meter.now.value) (meter.state c.args.meter.now.value) in
    record {
      added =
          part_stops _ _ c.args.out.now c.numbers.out c.add_number.new.out _ _ _ _ c.numbers.invariant
          (left-next number_text numbers c.numbers.at c.in-Some.number (sym c.in-Some.ensures)) c.from_residual.ensures.1 c.in_err-add_number.ensures.added;
    }

pub numbers-preserved : goal.numbers-preserved
numbers-preserved g c =
    let meter = goal.Meter-dyn g (c.args.meter.now.vtable, c.args.meter.now.value) in
    let numbers = told (meter.kind_of c.args.meter.now.value) (meter.state c.args.meter.now.value) in
    elim c.match-number_of.branch [
      | in-Some+in_ok-add_number w ↦
          goes _ _ _ _ _ _ _ c.numbers.invariant (left-next number_text numbers c.numbers.at w.in-Some.number (sym w.in-Some.ensures))
          (ap (λ t. chars (string_bytes t)) w.out-is ∙ w.in_ok-add_number.ensures.added)
      | in_default w ↦
          let past = ends_before numbers c.numbers.at w.in_default.ensures in
          subst (λ t. Progress (chars (string_bytes c.args.out.now)) (chars (string_bytes t)) (flat_map number_text numbers) (flat_map number_text (drop (c.numbers.at + 1) numbers))) (sym w.out-is)
          (subst (Progress (chars (string_bytes c.args.out.now)) (chars (string_bytes c.numbers.out)) (flat_map number_text numbers))
          (left-none number_text numbers c.numbers.at past ∙ sym (left-none number_text numbers (c.numbers.at + 1) (omega (arith, past))))
          c.numbers.invariant)
    ]
