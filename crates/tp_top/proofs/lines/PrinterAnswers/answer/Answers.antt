use Rattle.std.proofs.Common.{◌≡◌, ◌∙◌, ◌++◌, Some, refl, ap, subst, chars, string_bytes, encode_utf8_all}
use Rattle.std.proofs.lemmas.Str.{IsUtf8-string_bytes, chars-nil}
use Rattle.tp_outside.specs.Taken.{added, HasPrefix}
use Rattle.tp_terms.proofs.Texts.Equal.{bytes-chars}
use Rattle.tp_engine.specs.Answers.{answer_in}
use Rattle.tp_engine.specs.Told.{world_in}
use Rattle.tp_top.specs.Metered.{meter_lines, printed_kinds}
use Rattle.tp_top.specs.Told.{lines_of, shown}
use Rattle.tp_top.proofs.Metering.Counted.{unprinted_any}
use Rattle.tp_top.proofs.lines.PrinterAnswers.answer.Goals as goal

pub returns-in-Ok-clause-taken : goal.returns-in-Ok-clause-taken
returns-in-Ok-clause-taken g c =
    let old = c.args.self.now in
    let kinds = g.M.Counting.kinds old.meters.now in
    let lines = shown (printed_kinds old.metered kinds) (answer_in c.args.view.now) in
    let text = c.add_counted.new.text in
    let seen : chars (string_bytes text) ≡ lines =
    c.in_ok-add_counted.ensures.added
    ∙ ap (λ b. b ++ meter_lines (printed_kinds old.metered kinds) (world_in c.args.view.now).history)
    (c.in_ok-add_answer.ensures.added ∙ ap (λ b. chars b ++ lines_of (answer_in c.args.view.now)) c.new-text.ensures.bytes ∙ ap (λ b. b ++ lines_of (answer_in c.args.view.now)) chars-nil) in
    let bytes : c.as_bytes.result.now ≡ encode_utf8_all lines = c.as_bytes.ensures.value ∙ bytes-chars (string_bytes text) lines (IsUtf8-string_bytes text) seen in (
      refl,
      refl,
      record {
        keeps = record { metered = refl; kinds = c.in_ok-add_counted.ensures.kinds };
        faults = c.in-Ok.ensures.no_fault;
        taken = c.in-Ok.ensures.all ∙ ap (added (g.W.Sink.taken old.sink.now)) bytes;
        numbers = c.in_ok-add_counted.ensures.counted;
      },
    )

pub returns-clause-left : goal.returns-clause-left
returns-clause-left g c =
    let old = c.args.self.now in
    let kinds = g.M.Counting.kinds old.meters.now in
    let numbers = g.M.Counting.numbers old.meters.now in
    let lines = shown (printed_kinds old.metered kinds) (answer_in c.args.view.now) in
    let text = c.add_counted.new.text in
    let seen : chars (string_bytes text) ≡ lines =
    c.in_ok-add_counted.ensures.added
    ∙ ap (λ b. b ++ meter_lines (printed_kinds old.metered kinds) (world_in c.args.view.now).history)
    (c.in_ok-add_answer.ensures.added ∙ ap (λ b. chars b ++ lines_of (answer_in c.args.view.now)) c.new-text.ensures.bytes ∙ ap (λ b. b ++ lines_of (answer_in c.args.view.now)) chars-nil) in
    let bytes : c.as_bytes.result.now ≡ encode_utf8_all lines = c.as_bytes.ensures.value ∙ bytes-chars (string_bytes text) lines (IsUtf8-string_bytes text) seen in (
      refl,
      refl,
      record {
        keeps = record { metered = refl; kinds = c.in_ok-add_counted.ensures.kinds };
        left = subst (HasPrefix (g.W.Sink.taken old.sink.now) (g.W.Sink.taken c.write_all.new.sink)) bytes c.in-Err.ensures.prefix;
        numbers = λ no. unprinted_any c.add_counted.result old.metered kinds (Some (world_in c.args.view.now).history) numbers _ no c.add_counted.ensures.counted;
      },
    )
