use Rattle.std.proofs.Common.{◌++◌, codes}
use Rattle.std.specs.Str.{chars}
use Rattle.tp_report.specs.Seen.{seen_by}
use Rattle.tp_report.specs.Lines.{value_text}
use Rattle.tp_report.proofs.Parts.Calls.{first_stops, second_stops, third_adds}
use Rattle.tp_report.proofs.AnswerLines.Pieces.{variable-pieces}
use Rattle.tp_report.proofs.scene.Scene.add_variable.Goals as goal

pub returns-in_err-add_pieces : goal.returns-in_err-add_pieces
unfolding chars
returns-in_err-add_pieces g c = record {
  added =
      first_stops _ _ c.args.out.now c.add_pieces.new.out _ _ (value_text (seen_by g.B.Binds.bindings c.args.self.now) c.args.variable.now.number ++ codes "\n")
      (variable-pieces _ _ _ c.as_str.ensures.chars) c.from_residual.ensures.1 c.in_err-add_pieces.ensures.added;
}

pub returns-in_err-add_value : goal.returns-in_err-add_value
unfolding chars
returns-in_err-add_value g c = record {
  added =
      second_stops _ _ c.args.out.now c.add_pieces.new.out c.add_value.new.out _ _ _ _
      (variable-pieces _ _ _ c.as_str.ensures.chars) c.from_residual-in_err-add_value.ensures.1 c.in_ok-add_pieces.ensures.added c.in_err-add_value.ensures.added;
}

pub returns : goal.returns
unfolding chars
returns g c = record {
  added =
      third_adds c.push_text.result c.args.out.now c.add_pieces.new.out c.add_value.new.out c.push_text.new.out _ _ _ _
      (variable-pieces _ _ _ c.as_str.ensures.chars) c.in_ok-add_pieces.ensures.added c.in_ok-add_value.ensures.added c.push_text.ensures.added;
}
