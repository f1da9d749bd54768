use Rattle.std.proofs.Common.{◌+◌, refl, arith}
use Rattle.tp_build.proofs.RowAnswers.Parts.{row-more, same-at}
use Rattle.tp_build.proofs.parts.place_row.Goals as goal

pub loop-placed-preserved : goal.loop-placed-preserved
loop-placed-preserved g c =
    let i = c.loop-placed.invariant in
    let lt = c.loop-placed-test.true in
    record {
      some = omega arith;
      most = omega (arith, lt);
      place = i.place;
      row = row-more (g.T.Terms.heap c.args.terms.now) (g.T.Terms.heap c.loop-placed.terms) (g.T.Terms.heap c.place_top-in-loop-placed.new.terms) c.args.places.now c.loop-placed.placed (c.loop-placed.placed + 1) _ refl (λ d. same-at c.args.places.now c.loop-placed.placed d (record { at = 0 }) lt) (c.requires.within c.loop-placed.placed (record { at = 0 }) lt) i.row c.in_ok-place_top.ensures.shows;
      heap = c.in_ok-place_top.ensures.heap;
    }
