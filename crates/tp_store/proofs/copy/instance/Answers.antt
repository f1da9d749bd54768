use Rattle.std.proofs.Common.{refl, arith}
use Rattle.tp_store.proofs.Substitution.Closed.{IsChains-cut}
use Rattle.tp_store.proofs.copy.instance.Goals as goal

pub returns-in-Err-clause-chains : goal.returns-in-Err-clause-chains
returns-in-Err-clause-chains c = IsChains-cut c.args.chains.now c.copy-copied.new.chains _ c.len-kept.result c.requires.chains c.copy-copied.ensures.chains c.copy-copied.ensures.adds (omega arith) c.cut_to.ensures.items refl refl refl
