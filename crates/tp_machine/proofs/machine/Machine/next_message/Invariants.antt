use Rattle.std.proofs.Common.{◌≡◌}
use Rattle.tp_machine.specs.Mail.{message_from}
use Rattle.tp_machine.proofs.machine.Machine.next_message.Given as goal

-- no message so far has a unifier with the goal's argument
abbrev pub invariant-loop-place : goal.invariant-loop-place
invariant-loop-place l = record {
  same : l.self ≡ l.fn.self;
  found : message_from l.fn.self l.task l.call l.place ≡ message_from l.fn.self l.task l.call l.from;
}
