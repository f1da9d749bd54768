use Rattle.std.proofs.Common.{◌≡◌, ◌++◌, ◌-◌, ◌<◌, true, false, length, slice_get, arith, sym, ap, ◌∙◌}
use Rattle.tp_clauses.specs.Candidates.{comes_first, merged}
use Rattle.tp_clauses.proofs.Lists.Spans.{own_step, other_step, own_within, other_within}
use Rattle.tp_clauses.proofs.candidates.merge.Goals as goal
use Rattle.tp_clauses.proofs.candidates.merge.Goals.{then-comes_first+in_ok-push, else-comes_first+in_ok-push-2}

pub loop-count-preserved : goal.loop-count-preserved
loop-count-preserved c = elim c.if-comes_first.branch [
  | then-comes_first+in_ok-push w ↦
      let first : comes_first (slice_get c.args.own.now c.loop-count.at) (slice_get c.args.others.now (c.loop-count.count - c.loop-count.at)) ≡ true = sym c.comes_first.ensures ∙ w.if-comes_first.true in
      let within : c.loop-count.at < length c.args.own.now = own_within c.args.own.now c.loop-count.at (slice_get c.args.others.now (c.loop-count.count - c.loop-count.at)) first in
      record {
        so_far = own_step (c.args.ids.now.items ++ merged c.args.own.now c.args.others.now) c.loop-count.ids.items c.if-comes_first.ids.items c.args.own.now c.args.others.now c.loop-count.at c.if-comes_first.at c.loop-count.count
            c.loop-count.invariant.so_far c.loop-count.invariant.before first (ap (λ v. v.items) w.ids-is ∙ w.in_ok-push.ensures.items) w.at-is;
        before = omega (arith, w.at-is, c.loop-count.invariant.before);
        own = omega (arith, w.at-is, within);
        others = omega (arith, w.at-is, c.loop-count.invariant.others);
      }
  | else-comes_first+in_ok-push-2 w ↦
      let second : comes_first (slice_get c.args.own.now c.loop-count.at) (slice_get c.args.others.now (c.loop-count.count - c.loop-count.at)) ≡ false = sym c.comes_first.ensures ∙ w.if-comes_first.false in
      let within : c.loop-count.count - c.loop-count.at < length c.args.others.now = other_within c.args.own.now c.args.others.now c.loop-count.at (c.loop-count.count - c.loop-count.at) second c.loop-count.invariant.own c.loop-count.invariant.others
      (omega (arith, c.loop-count.invariant.before, c.loop-count-test.true)) in
      record {
        so_far = other_step (c.args.ids.now.items ++ merged c.args.own.now c.args.others.now) c.loop-count.ids.items c.if-comes_first.ids.items c.args.own.now c.args.others.now c.loop-count.at c.if-comes_first.at c.loop-count.count
            c.loop-count.invariant.so_far c.loop-count.invariant.before second within (ap (λ v. v.items) w.ids-is ∙ w.in_ok-push-2.ensures.items) w.at-is;
        before = omega (arith, w.at-is, c.loop-count.invariant.before);
        own = omega (arith, w.at-is, c.loop-count.invariant.own);
        others = omega (arith, w.at-is, c.loop-count.invariant.before, within);
      }
]
