use Rattle.std.proofs.Common.{refl}
use Rattle.tp_machine.proofs.Step.First.{process_there}
use Rattle.tp_machine.proofs.Step.Raise.{raises_with}
use Rattle.tp_machine.proofs.machine.Machine.raise.Goals as goal

pub name_of-process-requires : goal.name_of-process-requires
name_of-process-requires c = process_there c.args.self.now c.args.task.process c.requires.meets.standing c.requires.meets.running

pub raised-requires : goal.raised-requires
raised-requires c = c.requires.cause.culprit

pub returns-clause-done : goal.returns-clause-done
returns-clause-done c =
    raises_with c.args.self.now c.args.task c.requires.machine c.requires.meets (record c.args.self.now.state { store = c.raised.new.store }) c.in_ok-place.place c.args.cause c.name_of-process.result c.requires.cause c.name_of-process.ensures c.in_ok-place.ensures refl refl
