use Rattle.std.proofs.Common.{chars, string_bytes, drop}
use Rattle.tp_terms.specs.Added.{Progress}
use Rattle.tp_report.specs.Seen.{seen_by}
use Rattle.tp_report.specs.Lines.{variables_text}
use Rattle.tp_report.proofs.scene.Scene.add_variables.Given as goal

abbrev pub invariant-loop-variable : goal.invariant-loop-variable
invariant-loop-variable g l =
    let text = variables_text (seen_by g.B.Binds.bindings l.self) in
    Progress (chars (string_bytes l.fn.out)) (chars (string_bytes l.out)) (text l.named) (text (drop l.variable-index l.named))
