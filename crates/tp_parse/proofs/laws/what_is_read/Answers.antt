use Rattle.tp_parse.proofs.WhatIsRead.{clause-numbered, goal-numbered, clause-placed}
use Rattle.tp_parse.proofs.laws.what_is_read.Goals as goal

pub returns-clause-numbered : goal.returns-clause-numbered
returns-clause-numbered c = record { clauses = clause-numbered; goals = goal-numbered }

pub returns-clause-placed : goal.returns-clause-placed
returns-clause-placed c = clause-placed
