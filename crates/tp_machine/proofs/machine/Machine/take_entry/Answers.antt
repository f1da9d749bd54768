use Rattle.tp_state.proofs.GoingBack.Follows.{follows-then}
use Rattle.tp_machine.proofs.Step.Schedule.{takes, entry_first, entry_there, entry_kept}
use Rattle.tp_machine.proofs.machine.Machine.take_entry.Goals as goal

pub take_slot-requires : goal.take_slot-requires
take_slot-requires c = entry_first c.args.self.now c.requires

pub run-requires : goal.run-requires
run-requires c =
    let e = c.in_ok-process.ensures.plain _ _ c.requires.slots in
    entry_there c.args.self.now c.requires c.take_slot.new.self c.in_ok-process.process e.0 e.1

pub open-requires : goal.open-requires
open-requires c =
    let e = c.in_ok-process.ensures.plain _ _ c.requires.slots in
    entry_kept c.args.self.now c.requires c.take_slot.new.self c.in_ok-process.process e.0 e.1 c.run.new.self c.in_ok-run.ensures.plain

pub returns-clause-done : goal.returns-clause-done
returns-clause-done c =
    let e = c.in_ok-process.ensures.plain _ _ c.requires.slots in
    takes c.args.self.now c.requires c.take_slot.new.self c.run.new.self c.open.new.self c.in_ok-process.process e.0 e.1 c.in_ok-run.ensures.plain c.in_ok-open.ensures.plain
    (follows-then _ _ _ c.in_ok-process.ensures.follows (follows-then _ _ _ c.in_ok-run.ensures.follows c.in_ok-open.ensures.follows))
