use Rattle.tp_store.specs.Block.{AreMoved}
use Rattle.tp_store.specs.Chain.{IsChains, contents_of}
use Rattle.tp_store.specs.Contents.{AddsCells}
use Rattle.tp_store.proofs.block.Moving.place_each.Given as goal

abbrev pub invariant-cells : goal.invariant-cells
invariant-cells l = record {
  chains : IsChains l.chains;
  adds : AddsCells (contents_of l.fn.chains) (contents_of l.chains);
  moved : AreMoved l.from.items l.self (contents_of l.fn.chains) (contents_of l.chains) l.at l.varies;
}
