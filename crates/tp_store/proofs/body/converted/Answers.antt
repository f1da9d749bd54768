use Rattle.std.proofs.Common.{refl, arith}
use Rattle.tp_store.proofs.Substitution.Closed.{IsChains-cut}
use Rattle.tp_store.proofs.body.converted.Goals as goal

pub returns-in-Ok-None-clause-chains : goal.returns-in-Ok-None-clause-chains
returns-in-Ok-None-clause-chains c = IsChains-cut c.args.chains.now c.convert.new.chains _ c.len-kept.result c.requires.chains c.in-Ok-None.ensures.chains c.in-Ok-None.ensures.adds (omega arith) c.cut_to.ensures.items refl refl refl

pub returns-in-Err-clause-chains : goal.returns-in-Err-clause-chains
returns-in-Err-clause-chains c = IsChains-cut c.args.chains.now c.convert.new.chains _ c.len-kept.result c.requires.chains c.in-Err.ensures.chains c.in-Err.ensures.adds (omega arith) c.cut_to-in-Err.ensures.items refl refl refl
