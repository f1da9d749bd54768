use Rattle.tp_parse.proofs.OneReading.Outcomes.{each_has_one_outcome, reading_follows_grammar}
use Rattle.tp_parse.proofs.laws.one_reading.Goals as goal

pub returns-clause-one : goal.returns-clause-one
returns-clause-one c = each_has_one_outcome

pub returns-clause-follows : goal.returns-clause-follows
returns-clause-follows c = reading_follows_grammar
