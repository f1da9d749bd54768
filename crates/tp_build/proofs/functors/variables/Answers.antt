use Rattle.std.proofs.Common.{◌+◌, refl, arith}
use Rattle.tp_build.proofs.RowAnswers.Functor.{variables-more}
use Rattle.tp_build.proofs.functors.variables.Goals as goal

pub loop-made-preserved : goal.loop-made-preserved
loop-made-preserved g c =
    let i = c.loop-made.invariant in
    record {
      some = omega arith;
      most = omega (arith, c.loop-made-test.true);
      place = i.place;
      value = variables-more (g.T.Terms.heap c.args.terms.now) (g.T.Terms.heap c.loop-made.terms) (g.T.Terms.heap c.fresh-in-loop-made.new.self) c.loop-made.made (c.loop-made.made + 1) refl i.value c.in_ok-fresh.ensures.value;
      heap = c.in_ok-fresh.ensures.heap;
    }
