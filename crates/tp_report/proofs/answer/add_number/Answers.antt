use Rattle.std.specs.Str.{chars}
use Rattle.tp_terms.proofs.Texts.Added.{Adds-as}
use Rattle.tp_report.proofs.AnswerLines.Pieces.{number-pieces}
use Rattle.tp_report.proofs.answer.add_number.Goals as goal

pub returns : goal.returns
unfolding chars
returns c = record {
  added =
      Adds-as c.add_pieces.result c.args.out.now c.add_pieces.new.out _ _ (number-pieces c.args.number) c.add_pieces.ensures.added;
}
