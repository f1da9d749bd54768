use Rattle.tp_meaning.proofs.ValidWorlds.Rise.{stamps_rise}
use Rattle.tp_meaning.proofs.laws.stamps_rise.Goals as goal

pub returns : goal.returns
returns c = stamps_rise
