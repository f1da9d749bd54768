use Rattle.std.proofs.Common.{◌≤◌, length, take, ap, arith, length-append}
use Rattle.tp_parse.proofs.Numbered.Cells.{all-at, before-more}
use Rattle.tp_parse.proofs.build.add_all.Goals as goal

pub push-requires : goal.push-requires
push-requires c =
    let longer : length c.args.cells.now.items ≤ length c.loop-item.cells.items = omega (arith, ap length c.loop-item.invariant, length-append c.args.cells.now.items (take c.loop-item.item-index c.args.items.now)) in
    before-more _ _ _ longer (all-at c.args.items.now _ c.loop-item.item-index _ c.requires c.loop-item-test.true)
