use Rattle.tp_machine.proofs.Enters.Entering.{entering_rests}
use Rattle.tp_machine.proofs.Step.Acting.{first_there}
use Rattle.tp_machine.proofs.Step.Waiting.{condition_entered}
use Rattle.tp_meaning.specs.declared.goals.ProcessGoal.TheVariants.{Wait}
use Rattle.tp_machine.proofs.machine.Machine.enter_condition.Goals as goal

pub enter-requires : goal.enter-requires
enter-requires c = record { goal = first_there c.args.self.now c.args._task c.args.call Wait c.requires.call }

pub returns-clause-rests : goal.returns-clause-rests
returns-clause-rests c =
    let m = c.args.self.now in
    let r = c.in_ok-entered.ensures in
    entering_rests m c.enter.new.state c.args.call.first c.in_ok-entered.entered c.requires.machine r.same r.store (r.entered m.atoms c.requires.machine.program.table c.requires.machine.stands.atoms)

pub returns-clause-condition : goal.returns-clause-condition
returns-clause-condition c =
    let m = c.args.self.now in
    let r = c.in_ok-entered.ensures in
    condition_entered m c.args._task c.args.call c.requires.call c.enter.new.state c.in_ok-entered.entered c.requires.machine r.same r.store (r.entered m.atoms c.requires.machine.program.table c.requires.machine.stands.atoms)
