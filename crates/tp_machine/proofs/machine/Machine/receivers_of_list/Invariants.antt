use Rattle.std.proofs.Common.{◌≡◌, ◌<◌, length}
use Rattle.tp_terms.specs.Term.{term_size}
use Rattle.tp_store.specs.Contents.{seen}
use Rattle.tp_machine.specs.Sending.{ahead, left_of}
use Rattle.tp_machine.proofs.machine.Machine.receivers_of_list.Given as goal

-- the processes found so far, in front of those of what is left
abbrev pub invariant-loop-process : goal.invariant-loop-process
invariant-loop-process l = record {
  all : left_of l.self l.list l.list ≡ ahead l.found.items (left_of l.self l.list l.at);
  here : l.at.at < length l.self.state.store.cells;
}

abbrev pub decreases-loop-process : goal.decreases-loop-process
decreases-loop-process l = term_size (seen l.self.atoms l.self.state.store l.at.at)
