use Rattle.std.proofs.Common.{sym, ◌∙◌}
use Rattle.tp_machine.proofs.machine.Machine.call.Goals as goal

pub run_clauses-requires-clause-call : goal.run_clauses-requires-clause-call
run_clauses-requires-clause-call c =
    record { meets = c.requires.meets; call = c.requires.call; kind = sym (c.goal_kind.ensures c.args.self.now.atoms c.requires.machine.program.table c.requires.call.name) ∙ c.in-None.is }

pub take-requires-clause-call : goal.take-requires-clause-call
take-requires-clause-call c =
    record { meets = c.requires.meets; call = c.requires.call; kind = sym (c.goal_kind.ensures c.args.self.now.atoms c.requires.machine.program.table c.requires.call.name) ∙ c.in-Some.is }
