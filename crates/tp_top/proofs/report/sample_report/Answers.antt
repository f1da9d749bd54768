use Rattle.std.proofs.Common.{◌∙◌}
use Rattle.tp_top.proofs.Running.Printed.{counts-whole}
use Rattle.tp_top.proofs.report.sample_report.Goals as goal

pub returns : goal.returns
returns c =
    c.made.ensures ∙ counts-whole c.in_ok-status.status c.in_ok-text.text c.end_text.new.out _ c.args.ended.now.steps c.in_ok-status.end _
    c.in_ok-status.ensures c.in_ok-text.ensures.ok c.in_ok-end_text.ensures.added
