use Rattle.std.proofs.Common.{◌∙◌}
use Rattle.tp_top.proofs.Running.Printed.{model-line}
use Rattle.tp_top.proofs.refusal.model_refused.Goals as goal

pub returns : goal.returns
returns c = c.made.ensures ∙ model-line _ c.cause_word-word.result.now c.args.clause c.args.byte c.args.cause c.in_ok-text.ensures.ok c.cause_word-word.ensures
