use Rattle.std.proofs.Common.{◌≡◌, ◌∙◌, refl, subst, length, slice_set, arith}
use Rattle.std.proofs.lemmas.List.{length-set}
use Rattle.tp_procs.specs.Tree.{IsTreeBut}
use Rattle.tp_procs.proofs.Mended.{went-up, came-to-top}
use Rattle.tp_procs.proofs.tree.mend.Goals as goal

pub loop-at-preserved : goal.loop-at-preserved
loop-at-preserved c =
    let ns = c.loop-at.nodes in
    let at = c.loop-at.at in
    let kept : length (slice_set ns at c.whole_of.result) ≡ length ns = length-set ns at c.whole_of.result in
    record {
      same = kept ∙ c.loop-at.invariant.same;
      within = omega (arith, kept, c.loop-at.invariant.within);
      others = went-up c.args.procs.now ns at _ c.whole_of.result c.whole_of.ensures c.loop-at.invariant.within c.loop-at.invariant.others c.loop-at-test.true;
    }

pub returns : goal.returns
returns c =
    let ns = c.loop-at.nodes in
    let top : c.loop-at.at ≡ 0 = omega arith in
    came-to-top c.args.procs.now ns 0 _ c.whole_of-2.result c.whole_of-2.ensures (omega (arith, c.loop-at.invariant.within))
    (subst (IsTreeBut c.args.procs.now ns) top c.loop-at.invariant.others) (refl)
