use Rattle.std.proofs.Common.{ap, sym, ◌∙◌}
use Rattle.tp_parse.specs.Ops.{table_of}
use Rattle.tp_engine.specs.Ended.{end_of}
use Rattle.tp_engine.specs.declared.run.How.{How}
use Rattle.tp_top.specs.Report.{end_by}
use Rattle.tp_top.specs.Replies.{counts_in}
use Rattle.tp_top.proofs.report.end_of_search.Goals as goal

pub returns-in-NoMore : goal.returns-in-NoMore
returns-in-NoMore c =
    c.no_more.ensures (table_of c.args.view.now.ops)
    ∙ ap (λ (how : How). end_by (table_of c.args.view.now.ops) (counts_in c.args.ended.now) (end_of c.args.view.now how)) (sym c.in-NoMore.is)
