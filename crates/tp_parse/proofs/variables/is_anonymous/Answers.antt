use Rattle.std.proofs.Common.{◌∙◌}
use Rattle.tp_parse.proofs.Numbered.Variables.{anonymous}
use Rattle.tp_parse.proofs.variables.is_anonymous.Goals as goal

pub returns : goal.returns
returns c = c.eq.ensures ∙ anonymous c.args.name.now c.utf8.name
