use Rattle.std.proofs.Common.{◌++◌, codes, refl}
use Rattle.std.specs.Str.{chars}
use Rattle.tp_report.specs.Seen.{seen_by}
use Rattle.tp_report.specs.Lines.{term_text}
use Rattle.tp_report.proofs.Parts.Calls.{first_stops, second_stops, third_adds}
use Rattle.tp_report.proofs.scene.Scene.add_about.Goals as goal

pub returns-in_err-push_text : goal.returns-in_err-push_text
unfolding chars
returns-in_err-push_text g c = record {
  added =
      first_stops _ _ c.args.out.now c.push_text.new.out _ _ (term_text (seen_by g.B.Binds.bindings c.args.self.now) 999 c.args.term.at ++ codes ")")
      (refl) c.from_residual.ensures.1 c.in_err-push_text.ensures.added;
}

pub returns-in_err-add_term : goal.returns-in_err-add_term
unfolding chars
returns-in_err-add_term g c = record {
  added =
      second_stops _ _ c.args.out.now c.push_text.new.out c.add_term.new.out _ _ _ _
      (refl) c.from_residual-in_err-add_term.ensures.1 c.in_ok-push_text.ensures.added c.in_err-add_term.ensures.added;
}

pub returns : goal.returns
unfolding chars
returns g c = record {
  added =
      third_adds c.push_text-2.result c.args.out.now c.push_text.new.out c.add_term.new.out c.push_text-2.new.out _ _ _ _
      (refl) c.in_ok-push_text.ensures.added c.in_ok-add_term.ensures.added c.push_text-2.ensures.added;
}
