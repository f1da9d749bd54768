use Rattle.std.proofs.Common.{◌≡◌, drop}
use Rattle.tp_machine.specs.Sending.{Posts}
use Rattle.tp_machine.proofs.machine.Machine.post_all.Given as goal

-- the message was sent to those before a place
abbrev pub invariant-loop-k : goal.invariant-loop-k
invariant-loop-k l = record {
  same : l.self ≡ record l.fn.self { state = l.self.state };
  posts : Posts l.fn.self l.task l.call l.all (drop l.k l.all) l.self.state;
}
