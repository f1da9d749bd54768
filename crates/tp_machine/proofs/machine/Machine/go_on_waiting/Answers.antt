use Rattle.tp_machine.proofs.Step.First.{process_there, standing}
use Rattle.tp_machine.proofs.Step.Items.{goes_on_waiting}
use Rattle.tp_machine.proofs.machine.Machine.go_on_waiting.Goals as goal

pub leave-requires : goal.leave-requires
leave-requires c = process_there c.args.self.now c.args.process (standing c.args.self.now c.requires.back.machine) c.requires.running

pub returns-clause-done : goal.returns-clause-done
returns-clause-done c = goes_on_waiting c.args.self.now c.leave.new.self c.args.process c.requires.back c.requires.again c.requires.running c.in_ok-leave.ensures.plain c.in_ok-leave.ensures.follows
