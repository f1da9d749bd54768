use Rattle.std.proofs.Common.{subst, sym}
use Rattle.tp_terms.specs.declared.cells.Cell.{Cell}
use Rattle.tp_meaning.specs.declared.goals.ProcessGoal.TheVariants.{Now}
use Rattle.tp_machine.specs.Acting.{Tells}
use Rattle.tp_machine.proofs.Step.Acting.{tells_time}
use Rattle.tp_machine.proofs.machine.Machine.tell_time.Goals as goal

pub tell-requires-clause-tells : goal.tell-requires-clause-tells
tell-requires-clause-tells c =
    subst (λ (x : Cell). Tells c.args.self.now c.args.task c.args.call Now x) (sym c.time_cell-value.ensures) (tells_time c.args.self.now c.args.task c.args.call c.requires.call)
