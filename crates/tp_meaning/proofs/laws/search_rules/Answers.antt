use Rattle.tp_meaning.proofs.Searching.Rules.{search_rules}
use Rattle.tp_meaning.proofs.laws.search_rules.Goals as goal

pub returns : goal.returns
returns c = λ x. search_rules x
