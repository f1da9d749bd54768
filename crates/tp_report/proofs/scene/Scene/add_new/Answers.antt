use Rattle.std.proofs.Common.{w64, sym}
use Rattle.std.proofs.lemmas.Int.{to_z-of_z}
use Rattle.std.proofs.lemmas.Option.{get_or_from_slice_get}
use Rattle.std.specs.Str.{chars}
use Rattle.tp_terms.proofs.Texts.Added.{Adds-as}
use Rattle.tp_report.proofs.AnswerLines.Pieces.{new-pieces}
use Rattle.tp_report.proofs.scene.Scene.add_new.Goals as goal

pub returns : goal.returns
unfolding chars
returns g c = record {
  added =
      Adds-as c.add_pieces.result c.args.out.now c.add_pieces.new.out _ _
      (new-pieces _ _ _ c.args.start _ c.args.end (sym (get_or_from_slice_get c.args.self.now.atoms.now c.args.name.at _ _ c.name-name.ensures.name)) (to_z-of_z w64 c.args.start c.ranges.start) c.limit_piece.ensures)
      c.add_pieces.ensures.added;
}
