use Rattle.std.proofs.Common.{sym, ◌∙◌}
use Rattle.tp_machine.proofs.Step.Schedule.{stops_dead, stops_well}
use Rattle.tp_machine.proofs.machine.Machine.stop.Goals as goal

pub returns-then-is_any_live : goal.returns-then-is_any_live
returns-then-is_any_live c = stops_dead c.args.self.now c.requires.unmarked c.requires.empty (sym c.is_any_live.ensures ∙ c.if-is_any_live.true)

pub returns-else-is_any_live : goal.returns-else-is_any_live
returns-else-is_any_live c = stops_well c.args.self.now c.requires.unmarked c.requires.empty (sym c.is_any_live.ensures ∙ c.if-is_any_live.false)
