use Rattle.std.proofs.Common.{◌-◌, ◌++◌, ◌∷◌, [], ap, ◌∙◌}
use Rattle.tp_clauses.proofs.Clauses.Moved.{append_turn}
use Rattle.tp_clauses.proofs.append.append.Goals as goal

pub loop-at-preserved : goal.loop-at-preserved
loop-at-preserved c = record {
  cells = append_turn c.args.store.now.cells c.args.more.now.items c.loop-at.store.cells c.place.new.store.cells c.loop-at.at (c.mark.result.cells - c.loop-at.at) c.get.result c.loop-at.invariant.cells c.get.ensures.value
      (ap (λ n. n - c.loop-at.at) c.mark.ensures.cells)
      (c.in_ok-place.ensures.cells ∙ ap (λ x. c.loop-at.store.cells ++ x ∷ []) c.moved.ensures);
  pairs = c.in_ok-place.ensures.pairs ∙ c.loop-at.invariant.pairs;
}
