use Rattle.std.proofs.Common.{◌∙◌, map, chars}
use Rattle.tp_parse.specs.Tells.{named_of}
use Rattle.tp_parse.specs.Variables.{numbers_of}
use Rattle.tp_parse.proofs.Numbered.Variables.{number-first, number-behind}
use Rattle.tp_parse.proofs.variables.find.Goals as goal

pub returns-in-Some : goal.returns-in-Some
returns-in-Some c =
    number-first (map named_of c.args.few.now) (numbers_of c.args.more.now.entries) (chars c.args.name.now) _ c.in-Some.ensures

pub returns-in-None : goal.returns-in-None
returns-in-None c =
    c.find_behind.ensures ∙ number-behind (map named_of c.args.few.now) (numbers_of c.args.more.now.entries) (chars c.args.name.now) c.in-None.ensures
