use Rattle.std.specs.Str.{chars}
use Rattle.tp_terms.proofs.Texts.Added.{Adds-as}
use Rattle.tp_report.specs.Seen.{seen_by}
use Rattle.tp_report.proofs.AnswerLines.Pieces.{unbound-pieces}
use Rattle.tp_report.proofs.scene.Scene.add_value.Goals as goal

pub returns-in-None : goal.returns-in-None
unfolding chars
returns-in-None g c = record {
  added =
      Adds-as c.add_pieces.result c.args.out.now c.add_pieces.new.out _ _ (unbound-pieces (seen_by g.B.Binds.bindings c.args.self.now) _ c.in-None.ensures) c.add_pieces.ensures.added;
}
