use Rattle.tp_machine.proofs.Step.First.{process_there, standing}
use Rattle.tp_state.proofs.GoingBack.Follows.{follows-then}
use Rattle.tp_machine.proofs.Step.Items.{ends}
use Rattle.tp_machine.proofs.machine.Machine.end.Goals as goal

pub leave-requires : goal.leave-requires
leave-requires c = process_there c.args.self.now c.args.process (standing c.args.self.now c.requires.runs.machine) c.requires.runs.running

pub returns-clause-done : goal.returns-clause-done
returns-clause-done c = ends c.args.self.now c.args.process c.leave.new.self c.note.new.self c.mark_others.new.self c.requires.runs c.requires.none c.in_ok-leave.ensures.plain c.in_ok-note.ensures.plain c.in_ok-mark_others.ensures.plain
    (follows-then _ _ _ c.in_ok-leave.ensures.follows (follows-then _ _ _ c.in_ok-note.ensures.follows c.in_ok-mark_others.ensures.follows))
