use Rattle.std.proofs.Common.{sym, ◌∙◌}
use Rattle.tp_machine.proofs.GoesBack.Forgotten.{none_open, some_open}
use Rattle.tp_machine.proofs.machine.Machine.forget.Goals as goal

pub returns-then-is_empty : goal.returns-then-is_empty
returns-then-is_empty c = none_open c.args.self.now c.clear.new.self c.requires (sym c.is_empty.ensures ∙ c.if-is_empty.true) c.clear.ensures

pub returns-else-is_empty : goal.returns-else-is_empty
returns-else-is_empty c = some_open c.args.self.now c.requires
