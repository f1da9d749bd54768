use Rattle.std.proofs.Common.{sym, ◌∙◌}
use Rattle.tp_parse.proofs.Numbered.Variables.{number_in-lookup}
use Rattle.tp_parse.proofs.variables.find_behind.Goals as goal

pub returns-in-Some : goal.returns-in-Some
returns-in-Some c = c.in-Some.ensures.value ∙ sym (number_in-lookup c.args.more.now.entries c.args.name.now c.utf8.name)

pub returns-in-None : goal.returns-in-None
returns-in-None c = c.in-None.ensures.value ∙ sym (number_in-lookup c.args.more.now.entries c.args.name.now c.utf8.name)
