use Rattle.std.proofs.Common.{sym, ◌∙◌}
use Rattle.tp_machine.proofs.Step.Counted.{counts_none}
use Rattle.tp_machine.proofs.machine.Machine.count.Goals as goal

pub returns-then-is_empty-clause-done : goal.returns-then-is_empty-clause-done
returns-then-is_empty-clause-done c = counts_none c.args.self.now c.args.task c.args.call c.args.bounds c.args.variable c.requires.counts c.requires.machine (sym c.is_empty.ensures ∙ c.if-is_empty.true)
