use Rattle.std.proofs.Common.{◌∙◌}
use Rattle.tp_top.proofs.Running.Printed.{goal-line}
use Rattle.tp_top.proofs.refusal.goal_refused.Goals as goal

pub returns : goal.returns
returns c = c.made.ensures ∙ goal-line _ c.cause_word-word.result.now c.args.byte c.args.cause c.in_ok-text.ensures.ok c.cause_word-word.ensures
