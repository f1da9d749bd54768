use Rattle.std.proofs.Common.{sym, ap, ◌∙◌, arith}
use Rattle.tp_machine.specs.Causes.{domain_word}
use Rattle.tp_machine.proofs.Gives.Raised.{is_end_time, is_not_less, is_start_time, name_within}
use Rattle.tp_machine.proofs.errors.domain_name.Goals as goal

pub returns-in-Duration-clause-within : goal.returns-in-Duration-clause-within
returns-in-Duration-clause-within c names table = name_within names table 94 (omega arith)

pub returns-in-Duration-clause-name : goal.returns-in-Duration-clause-name
returns-in-Duration-clause-name c names table = is_not_less names table ∙ ap domain_word (sym c.in-Duration.is)

pub returns-in-StartTime-clause-within : goal.returns-in-StartTime-clause-within
returns-in-StartTime-clause-within c names table = name_within names table 91 (omega arith)

pub returns-in-StartTime-clause-name : goal.returns-in-StartTime-clause-name
returns-in-StartTime-clause-name c names table = is_start_time names table ∙ ap domain_word (sym c.in-StartTime.is)

pub returns-in-EndTime-clause-within : goal.returns-in-EndTime-clause-within
returns-in-EndTime-clause-within c names table = name_within names table 92 (omega arith)

pub returns-in-EndTime-clause-name : goal.returns-in-EndTime-clause-name
returns-in-EndTime-clause-name c names table = is_end_time names table ∙ ap domain_word (sym c.in-EndTime.is)
