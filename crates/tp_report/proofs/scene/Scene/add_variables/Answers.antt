use Rattle.std.proofs.Common.{chars, string_bytes, refl}
use Rattle.std.proofs.lemmas.Option.{slice_get_read}
use Rattle.tp_terms.proofs.Texts.Added.{begins, goes, ends}
use Rattle.tp_report.specs.Seen.{seen_by}
use Rattle.tp_report.specs.Lines.{variable_text, variables_text}
use Rattle.tp_report.proofs.Parts.Calls.{part_stops}
use Rattle.tp_report.proofs.Parts.Joined.{left-next, left-none}
use Rattle.tp_report.proofs.scene.Scene.add_variables.Goals as goal

pub loop-variable-init : goal.loop-variable-init
loop-variable-init g c =
    let out = chars (string_bytes c.args.out.now) in
    begins out out (variables_text (seen_by g.B.Binds.bindings c.args.self.now) c.args.named.now) refl

pub returns-in_err-add_variable : goal.returns-in_err-add_variable
returns-in_err-add_variable g c = record {
  added =
      part_stops _ _ c.args.out.now c.loop-variable.out c.add_variable.new.out _ _ _ _ c.loop-variable.invariant
      (left-next (variable_text (seen_by g.B.Binds.bindings c.args.self.now)) c.args.named.now c.loop-variable.variable-index c.variable-item.result
      (slice_get_read c.args.named.now _ c.loop-variable.variable-index c.variable-item.result refl c.loop-variable-test.true c.variable-item.is))
      c.from_residual.ensures.1 c.in_err-add_variable.ensures.added;
}

pub loop-variable-preserved : goal.loop-variable-preserved
loop-variable-preserved g c =
    goes _ _ _ _ _ _ _ c.loop-variable.invariant
    (left-next (variable_text (seen_by g.B.Binds.bindings c.args.self.now)) c.args.named.now c.loop-variable.variable-index c.variable-item.result
    (slice_get_read c.args.named.now _ c.loop-variable.variable-index c.variable-item.result refl c.loop-variable-test.true c.variable-item.is))
    c.in_ok-add_variable.ensures.added

pub returns : goal.returns
returns g c = record {
  added =
      ends _ _ _ _ c.loop-variable.invariant (left-none (variable_text (seen_by g.B.Binds.bindings c.args.self.now)) c.args.named.now c.loop-variable.variable-index c.loop-variable-test.false);
}
