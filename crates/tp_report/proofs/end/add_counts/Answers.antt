use Rattle.std.specs.Str.{chars}
use Rattle.tp_terms.proofs.Texts.Added.{Adds-as}
use Rattle.tp_report.proofs.LastLine.Pieces.{searched-pieces}
use Rattle.tp_report.proofs.end.add_counts.Goals as goal

pub returns : goal.returns
unfolding chars
returns c = record {
  added =
      Adds-as c.add_pieces.result c.args.out.now c.add_pieces.new.out _ _
      (searched-pieces (chars c.args.how.now) c.args.steps c.args.dead.failed c.args.dead.deadlock c.args.dead.late) c.add_pieces.ensures.added;
}
