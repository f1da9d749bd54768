use Rattle.std.proofs.Common.{◌≡◌, ◌++◌, rules, codes, w64, to_z, of_z}
use Rattle.std.proofs.lemmas.Int.{to_z-of_z}
use Rattle.std.specs.Str.{chars}
use Rattle.tp_report.specs.Seen.{seen_by}
use Rattle.tp_report.specs.Lines.{words_text}
use Rattle.tp_report.proofs.Parts.Calls.{first_stops, second_stops, third_adds}
use Rattle.tp_report.proofs.AnswerLines.Pieces.{event-pieces}
use Rattle.tp_report.proofs.scene.Scene.add_event.Goals as goal

pub returns-in_err-add_head : goal.returns-in_err-add_head
unfolding chars
returns-in_err-add_head g c = record {
  added =
      let z : to_z w64 (of_z w64 c.args.event.time) ≡ c.args.event.time = search (rules, to_z-of_z) in
      first_stops _ _ c.args.out.now c.add_head.new.out _ _ (words_text (seen_by g.B.Binds.bindings c.args.self.now) c.args.event.kind ++ codes "\n")
      (event-pieces _ _ _ _ _ z c.process_name-doer.ensures) c.from_residual.ensures.1 c.in_err-add_head.ensures.added;
}

pub returns-in_err-add_kind : goal.returns-in_err-add_kind
unfolding chars
returns-in_err-add_kind g c = record {
  added =
      let z : to_z w64 (of_z w64 c.args.event.time) ≡ c.args.event.time = search (rules, to_z-of_z) in
      second_stops _ _ c.args.out.now c.add_head.new.out c.add_kind.new.out _ _ _ _
      (event-pieces _ _ _ _ _ z c.process_name-doer.ensures) c.from_residual-in_err-add_kind.ensures.1 c.in_ok-add_head.ensures.added c.in_err-add_kind.ensures.added;
}

pub returns : goal.returns
unfolding chars
returns g c = record {
  added =
      let z : to_z w64 (of_z w64 c.args.event.time) ≡ c.args.event.time = search (rules, to_z-of_z) in
      third_adds c.push_text.result c.args.out.now c.add_head.new.out c.add_kind.new.out c.push_text.new.out _ _ _ _
      (event-pieces _ _ _ _ _ z c.process_name-doer.ensures) c.in_ok-add_head.ensures.added c.in_ok-add_kind.ensures.added c.push_text.ensures.added;
}
