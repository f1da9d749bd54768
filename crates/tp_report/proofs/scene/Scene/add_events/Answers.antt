use Rattle.std.proofs.Common.{◌≤◌, chars, string_bytes, length, refl, sym, ap, ◌∙◌, arith}
use Rattle.tp_terms.proofs.Texts.Added.{begins, goes, ends}
use Rattle.tp_report.specs.Seen.{seen_by}
use Rattle.tp_report.specs.Lines.{event_text, events_text}
use Rattle.tp_report.proofs.Parts.Calls.{part_stops}
use Rattle.tp_report.proofs.Parts.Joined.{left-next, left-none, not_past}
use Rattle.tp_report.proofs.scene.Scene.add_events.Goals as goal
use Rattle.tp_report.proofs.scene.Scene.add_events.Goals.{in-Some+in_ok-add_event, in_default}

pub loop-at-init : goal.loop-at-init
loop-at-init g c =
    let out = chars (string_bytes c.args.out.now) in
    begins out out (events_text (seen_by g.B.Binds.bindings c.args.self.now) c.args.events.now) refl

pub returns-in_err-add_event : goal.returns-in_err-add_event
returns-in_err-add_event g c = record {
  added =
      part_stops _ _ c.args.out.now c.loop-at.out c.add_event.new.out _ _ _ _ c.loop-at.invariant
      (left-next (event_text (seen_by g.B.Binds.bindings c.args.self.now)) c.args.events.now c.loop-at.at c.in-Some.event (sym c.in-Some.ensures)) c.from_residual.ensures.1 c.in_err-add_event.ensures.added;
}

pub loop-at-preserved : goal.loop-at-preserved
loop-at-preserved g c =
    elim c.match-get.branch [
      | in-Some+in_ok-add_event w ↦
          goes _ _ _ _ _ _ _ c.loop-at.invariant (left-next (event_text (seen_by g.B.Binds.bindings c.args.self.now)) c.args.events.now c.loop-at.at w.in-Some.event (sym w.in-Some.ensures)) (ap (λ s. chars (string_bytes s)) w.out-is ∙ w.in_ok-add_event.ensures.added)
      | in_default w ↦ absurd (not_past c.args.events.now c.loop-at.at c.len-at-end.result c.len-at-end.ensures c.loop-at-test.true w.in_default.ensures)
    ]

pub returns : goal.returns
returns g c = record {
  added =
      let h : length c.args.events.now ≤ c.loop-at.at = omega (arith, c.len-at-end.ensures, c.loop-at-test.false) in
      ends _ _ _ _ c.loop-at.invariant (left-none (event_text (seen_by g.B.Binds.bindings c.args.self.now)) c.args.events.now c.loop-at.at h);
}
