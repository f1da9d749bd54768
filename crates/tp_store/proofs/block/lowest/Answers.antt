use Rattle.std.proofs.Common.{◌-◌, refl, arith}
use Rattle.tp_store.proofs.Blocks.Cells.{whole_more}
use Rattle.tp_store.proofs.block.lowest.Goals as goal

pub walk-preserved : goal.walk-preserved
walk-preserved c =
    let i = c.walk.invariant in
    record {
      low = let a = i.low in let b = c.lower-low.ensures.below in omega arith;
      at = let a = i.at in omega arith;
      whole = whole_more c.args.from.now.items c.walk.low c.lower-low.result c.walk.at (c.walk.at - 1) c.args.end c.get.result refl i.whole c.lower-low.ensures.below c.get.ensures.value c.lower-low.ensures.first;
    }
