use Rattle.std.proofs.Common.{length}
use Rattle.tp_state.specs.State.{held_of}
use Rattle.tp_state.proofs.GoingBack.Undoing.{IsUndone}
use Rattle.tp_state.proofs.state.State.undo_above.Given as goal

abbrev pub invariant-entries : goal.invariant-entries
invariant-entries l = IsUndone l.kept (held_of l.fn.self) (held_of l.self)

abbrev pub decreases-entries : goal.decreases-entries
decreases-entries l = length l.self.log
