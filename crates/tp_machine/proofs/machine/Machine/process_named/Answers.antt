use Rattle.std.proofs.Common.{sym, ◌∙◌}
use Rattle.tp_machine.proofs.Step.Receiving.{names_empty, names_none, names_process}
use Rattle.tp_machine.proofs.machine.Machine.process_named.Goals as goal

pub returns-then-name : goal.returns-then-name
returns-then-name c = names_empty c.args.self.now c.args.at c.requires.at c.requires.machine c.args.name c.requires.name c.requires.is c.if-name.true

pub returns-in-Some : goal.returns-in-Some
returns-in-Some c = names_process c.args.self.now c.args.at c.requires.at c.requires.machine c.args.name c.requires.name c.requires.is c.in-Some.process c.if-name.false (sym c.by_name.ensures ∙ c.in-Some.is)

pub returns-in-None : goal.returns-in-None
returns-in-None c = names_none c.args.self.now c.args.at c.requires.at c.requires.machine c.args.name c.requires.name c.requires.is c.if-name.false (sym c.by_name.ensures ∙ c.in-None.is)
