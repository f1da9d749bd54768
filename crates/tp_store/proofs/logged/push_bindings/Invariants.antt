use Rattle.std.proofs.Common.{◌≡◌, ◌++◌, take, drop}
use Rattle.tp_store.proofs.Logging.Entries.{entries_of}
use Rattle.tp_store.proofs.logged.push_bindings.Given as goal

-- the entries of the pairs so far
abbrev pub invariant-loop-at : goal.invariant-loop-at
invariant-loop-at l = l.log ≡ l.fn.log ++ entries_of (drop l.kept (take l.at l.trail.pairs))
