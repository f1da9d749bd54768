use Rattle.tp_machine.proofs.Enters.Entering.{first_there, entering_rests, entering_first}
use Rattle.tp_machine.proofs.machine.Machine.enter_first.Goals as goal

pub enter-requires : goal.enter-requires
enter-requires c = record { goal = first_there c.args.self.now c.args._task c.args.call c.args._goal c.requires.call c.requires.first }

pub returns-clause-rests : goal.returns-clause-rests
returns-clause-rests c =
    let m = c.args.self.now in
    let r = c.in_ok-entered.ensures in
    entering_rests m c.enter.new.state c.args.call.first c.in_ok-entered.entered c.requires.machine r.same r.store (r.entered m.atoms c.requires.machine.program.table c.requires.machine.stands.atoms)

pub returns-clause-first : goal.returns-clause-first
returns-clause-first c =
    let m = c.args.self.now in
    let r = c.in_ok-entered.ensures in
    entering_first m c.args._task c.args.call c.enter.new.state c.args._goal c.in_ok-entered.entered c.requires.machine c.requires.call c.requires.first r.same r.store (r.entered m.atoms c.requires.machine.program.table c.requires.machine.stands.atoms)
