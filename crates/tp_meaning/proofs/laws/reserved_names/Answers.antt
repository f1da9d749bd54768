use Rattle.tp_meaning.proofs.OwnGoals.Reserved.{reserved_own}
use Rattle.tp_meaning.proofs.laws.reserved_names.Goals as goal

pub returns : goal.returns
returns c = reserved_own
