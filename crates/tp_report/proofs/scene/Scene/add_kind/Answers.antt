use Rattle.std.specs.Str.{chars}
use Rattle.tp_terms.proofs.Texts.Added.{Adds-as}
use Rattle.tp_report.specs.Seen.{seen_by}
use Rattle.tp_report.proofs.AnswerLines.Pieces.{words_as}
use Rattle.tp_report.proofs.scene.Scene.add_kind.Goals as goal

pub returns-in-Start : goal.returns-in-Start
unfolding chars
returns-in-Start g c = record {
  added =
      Adds-as c.push_text.result c.args.out.now c.push_text.new.out _ _ (words_as (seen_by g.B.Binds.bindings c.args.self.now) _ _ c.in-Start.is) c.push_text.ensures.added;
}

pub returns-in-Take : goal.returns-in-Take
unfolding chars
returns-in-Take g c = record {
  added =
      Adds-as c.add_about.result c.args.out.now c.add_about.new.out _ _ (words_as (seen_by g.B.Binds.bindings c.args.self.now) _ _ c.in-Take.is) c.add_about.ensures.added;
}

pub returns-in-Note : goal.returns-in-Note
unfolding chars
returns-in-Note g c = record {
  added =
      Adds-as c.add_about-in-Note.result c.args.out.now c.add_about-in-Note.new.out _ _ (words_as (seen_by g.B.Binds.bindings c.args.self.now) _ _ c.in-Note.is) c.add_about-in-Note.ensures.added;
}

pub returns-in-End : goal.returns-in-End
unfolding chars
returns-in-End g c = record {
  added =
      Adds-as c.push_text-in-End.result c.args.out.now c.push_text-in-End.new.out _ _ (words_as (seen_by g.B.Binds.bindings c.args.self.now) _ _ c.in-End.is) c.push_text-in-End.ensures.added;
}
