use Rattle.tp_meaning.proofs.Unification.OneUnifier.{one_unifier}
use Rattle.tp_meaning.proofs.laws.one_unifier.Goals as goal

pub returns : goal.returns
returns c = one_unifier
