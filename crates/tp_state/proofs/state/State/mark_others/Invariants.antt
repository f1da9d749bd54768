use Rattle.std.proofs.Common.{◌≡◌, ◌++◌, take, drop}
use Rattle.tp_state.specs.Acts.{mark_others}
use Rattle.tp_state.specs.State.{plain_of, held_of}
use Rattle.tp_state.specs.Going.{Follows}
use Rattle.tp_state.proofs.state.State.mark_others.Given as goal

abbrev pub invariant-loop-at : goal.invariant-loop-at
invariant-loop-at l = record {
  plain : plain_of l.self ≡ record (plain_of l.fn.self) { procs = take l.at (mark_others l.pid l.fn.self.procs) ++ drop l.at l.fn.self.procs };
  follows : Follows (held_of l.fn.self) (held_of l.self);
}
