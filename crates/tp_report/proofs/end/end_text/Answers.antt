use Rattle.std.proofs.Common.{sym, ap}
use Rattle.std.specs.Str.{chars}
use Rattle.tp_terms.proofs.Texts.Added.{Adds-as}
use Rattle.tp_report.specs.declared.end.EndLine.{EndLine}
use Rattle.tp_report.specs.End.{last_line}
use Rattle.tp_report.proofs.end.end_text.Goals as goal

pub returns-in-Stopped : goal.returns-in-Stopped
unfolding chars
returns-in-Stopped c = record {
  added =
      Adds-as c.add_end.result c.args.out.now c.add_end.new.out _ _
      (ap (λ (e : EndLine). last_line e c.args.steps) (sym c.in-Stopped.is)) c.add_end.ensures.added;
}

pub returns-in-NoMore : goal.returns-in-NoMore
unfolding chars
returns-in-NoMore c = record {
  added =
      Adds-as c.add_counts.result c.args.out.now c.add_counts.new.out _ _
      (ap (λ (e : EndLine). last_line e c.args.steps) (sym c.in-NoMore.is)) c.add_counts.ensures.added;
}

pub returns-in-No : goal.returns-in-No
unfolding chars
returns-in-No c = record {
  added =
      Adds-as c.add_counts-in-No.result c.args.out.now c.add_counts-in-No.new.out _ _
      (ap (λ (e : EndLine). last_line e c.args.steps) (sym c.in-No.is)) c.add_counts-in-No.ensures.added;
}

pub returns-in-Budget : goal.returns-in-Budget
unfolding chars
returns-in-Budget c = record {
  added =
      Adds-as c.add_end-in-Budget.result c.args.out.now c.add_end-in-Budget.new.out _ _
      (ap (λ (e : EndLine). last_line e c.args.steps) (sym c.in-Budget.is)) c.add_end-in-Budget.ensures.added;
}
