use Rattle.std.proofs.Common.{◌||◌, ◌+◌, refl, sym, subst, ap, ◌∙◌, arith}
use Rattle.tp_store.specs.Block.{AreMoved}
use Rattle.tp_store.specs.Chain.{contents_of}
use Rattle.tp_store.proofs.Bodies.Converted.{adds_both, adds_cell}
use Rattle.tp_store.proofs.Blocks.Moved.{moved_more}
use Rattle.tp_store.proofs.block.Moving.place_each.Goals as goal
use Rattle.tp_store.proofs.block.Moving.place_each.Goals.{then-varies, else-varies}

pub cells-preserved : goal.cells-preserved
cells-preserved c =
    let old = contents_of c.args.chains.now in
    let now = contents_of c.cells.chains in
    let new = contents_of c.place.new.chains in
    let i = c.cells.invariant in
    let more = moved_more c.args.from.now.items c.args.self old now new c.cells.at c.cells.at c.cells.varies c.in_ok-added.added.varies c.get.result i.moved c.requires.room c.cells.auto.at c.get.ensures.value c.get.ensures.before
    (c.requires.whole c.cells.at c.get.result c.cells.auto.at (omega arith) c.get.ensures.value) c.get.ensures.before c.in_ok-added.ensures.value c.in_ok-added.ensures.plain refl in
    record {
      chains = c.in_ok-added.ensures.chains;
      adds = adds_both old now new i.adds (adds_cell now new _ c.in_ok-added.ensures.value);
      moved = elim c.if-varies.branch [
        | then-varies w ↦ subst (AreMoved c.args.from.now.items c.args.self old new (c.cells.at + 1)) (ap (λ t. t || c.in_ok-added.added.varies) w.if-varies.true ∙ sym w.if-varies.true ∙ sym w.varies-is) more
        | else-varies w ↦ subst (AreMoved c.args.from.now.items c.args.self old new (c.cells.at + 1)) (ap (λ t. t || c.in_ok-added.added.varies) w.if-varies.false ∙ sym w.varies-is) more
      ];
    }
