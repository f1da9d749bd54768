use Rattle.std.proofs.Common.{refl, arith}
use Rattle.tp_store.proofs.Substitution.Closed.{IsChains-cut}
use Rattle.tp_store.proofs.block.copy_block.Goals as goal

pub returns-in-Err-clause-chains : goal.returns-in-Err-clause-chains
returns-in-Err-clause-chains c = IsChains-cut c.args.chains.now c.place_block.new.chains _ c.len-kept.result c.requires.chains c.place_block.ensures.chains c.place_block.ensures.adds (omega arith) c.cut_to.ensures.items refl refl refl
