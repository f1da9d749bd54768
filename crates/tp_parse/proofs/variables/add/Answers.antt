use Rattle.std.proofs.Common.{map, chars}
use Rattle.tp_parse.specs.Tells.{named_of}
use Rattle.tp_parse.specs.Variables.{numbers_of}
use Rattle.tp_parse.proofs.Numbered.Variables.{none-behind}
use Rattle.tp_parse.proofs.variables.add.Goals as goal

pub add_behind-requires : goal.add_behind-requires
add_behind-requires c =
    none-behind (map named_of c.args.few.now.items) (numbers_of c.args.more.now.entries) (chars c.args.name.now) c.requires
