use Rattle.std.proofs.Common.{chars, string_bytes, drop}
use Rattle.tp_terms.specs.Added.{Progress}
use Rattle.tp_report.specs.Seen.{seen_by}
use Rattle.tp_report.specs.Lines.{events_text}
use Rattle.tp_report.proofs.scene.Scene.add_events.Given as goal

abbrev pub invariant-loop-at : goal.invariant-loop-at
invariant-loop-at g l =
    let text = events_text (seen_by g.B.Binds.bindings l.self) in
    Progress (chars (string_bytes l.fn.out)) (chars (string_bytes l.out)) (text l.events) (text (drop l.at l.events))
