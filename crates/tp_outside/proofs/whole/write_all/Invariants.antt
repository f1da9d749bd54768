use Rattle.std.proofs.Common.{◌≡◌, ◌-◌, ◌≤◌, length, take}
use Rattle.tp_outside.specs.Taken.{added}
use Rattle.tp_outside.proofs.whole.write_all.Given as goal

-- a prefix was taken without a fault
abbrev pub invariant-loop-done : goal.invariant-loop-done
invariant-loop-done g l = record {
  within : l.done ≤ length l.bytes;
  taken : g.W.Sink.taken l.sink ≡ added (g.W.Sink.taken l.fn.sink) (take l.done l.bytes);
  count : g.W.Sink.faults l.sink ≡ g.W.Sink.faults l.fn.sink;
}

abbrev pub decreases-loop-done : goal.decreases-loop-done
decreases-loop-done g l = length l.bytes - l.done
