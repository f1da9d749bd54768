use Rattle.tp_machine.proofs.Step.Making.{free_empty, free_name, free_taken}
use Rattle.tp_machine.proofs.machine.Machine.unused.Goals as goal

pub returns-then-name : goal.returns-then-name
returns-then-name c = free_empty c.args.self.now c.requires.machine c.args.place c.requires.place c.args.name c.requires.within c.requires.shows c.if-name.true

pub returns-in-Some : goal.returns-in-Some
returns-in-Some c = free_taken c.args.self.now c.requires.machine c.args.place c.requires.place c.args.name c.requires.within c.requires.shows c.if-name.false c.in-Some.field-0 c.in-Some.ensures

pub returns-in-None : goal.returns-in-None
returns-in-None c = free_name c.args.self.now c.requires.machine c.args.place c.requires.place c.args.name c.requires.within c.requires.shows c.if-name.false c.in-None.ensures
