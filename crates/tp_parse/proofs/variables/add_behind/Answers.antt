use Rattle.tp_parse.proofs.Numbered.Variables.{added}
use Rattle.tp_parse.proofs.variables.add_behind.Goals as goal

pub returns : goal.returns
returns c = added c.args.named.now.entries c.insert.new.self.entries c.in_ok-owned.owned c.args.name.now _ c.in_ok-insert.ensures.entries c.in_ok-owned.ensures.ok c.requires
