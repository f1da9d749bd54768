use Rattle.std.proofs.Common.{rules}
use Rattle.tp_machine.proofs.Step.Schedule.{is_too_late, no_entry, some_entry}
use Rattle.tp_machine.proofs.machine.Machine.run_next.Goals as goal

pub stop-requires-clause-empty : goal.stop-requires-clause-empty
stop-requires-clause-empty c = no_entry c.args.self.now.state.calendar.slots c.next_time.result c.next_time.ensures c.in_default.is

pub returns-then-is_any_late-clause-done : goal.returns-then-is_any_late-clause-done
returns-then-is_any_late-clause-done c =
    let e = some_entry c.args.self.now.state.calendar.slots c.next_time.result c.in-Some.time c.next_time.ensures c.in-Some.is in
    is_too_late c.args.self.now c.requires e.entry e.more e.is (e.at c.args.self.now.state.procs c.is_any_late.result (search rules) c.if-is_any_late.true)

pub take_entry-requires : goal.take_entry-requires
take_entry-requires c =
    let e = some_entry c.args.self.now.state.calendar.slots c.next_time.result c.in-Some.time c.next_time.ensures c.in-Some.is in
    record { unmarked = c.requires; entry = e.entry; more = e.more; slots = e.is; timely = e.at c.args.self.now.state.procs c.is_any_late.result (search rules) c.if-is_any_late.false }
