use Rattle.std.proofs.Common.{[], ◌++◌, ap, ◌∙◌, chars}
use Rattle.std.proofs.lemmas.Str.{chars-nil}
use Rattle.tp_report.specs.End.{last_line}
use Rattle.tp_top.proofs.Running.Printed.{reply-whole}
use Rattle.tp_top.proofs.report.report.Goals as goal

pub returns : goal.returns
returns c =
    c.made.ensures ∙ reply-whole c.in_ok-status.status c.end_text.new.out [] c.args.ended.now.steps c.in_ok-status.end _
    c.in_ok-status.ensures
    (c.in_ok-end_text.ensures.added ∙ ap (λ t. chars t ++ last_line c.in_ok-status.end c.args.ended.now.steps) c.new-text.ensures.bytes ∙ ap (λ t. t ++ last_line c.in_ok-status.end c.args.ended.now.steps) chars-nil)
