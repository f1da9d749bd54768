use Rattle.tp_machine.proofs.Enters.Entering.{entering_rests}
use Rattle.tp_machine.proofs.Enters.Calling.{call_entered}
use Rattle.tp_machine.proofs.machine.Machine.enter_called.Goals as goal

pub enter-requires : goal.enter-requires
enter-requires c = record { goal = c.requires.calls.within }

pub returns-clause-rests : goal.returns-clause-rests
returns-clause-rests c =
    let m = c.args.self.now in
    let r = c.in_ok-entered.ensures in
    entering_rests m c.enter.new.state c.args.goal c.in_ok-entered.entered c.requires.machine r.same r.store (r.entered m.atoms c.requires.machine.program.table c.requires.machine.stands.atoms)

pub returns-clause-entered : goal.returns-clause-entered
returns-clause-entered c =
    let m = c.args.self.now in
    let r = c.in_ok-entered.ensures in
    call_entered m c.args._task c.args._call c.args.goal c.requires.calls c.enter.new.state c.in_ok-entered.entered c.requires.machine r.same r.store (r.entered m.atoms c.requires.machine.program.table c.requires.machine.stands.atoms)
