use Rattle.tp_store.specs.Chain.{IsChains, contents_of}
use Rattle.tp_store.specs.Work.{unbound_count}
use Rattle.tp_store.proofs.Unifier.Solutions.{IsSolving}
use Rattle.tp_store.proofs.solve.bind_each.Given as goal

abbrev pub invariant-bindings : goal.invariant-bindings
invariant-bindings l = record {
  chains : IsChains l.chains;
  solving : IsSolving (contents_of l.fn.chains) (contents_of l.chains) l.fn.left.at l.fn.right.at l.work.items;
}

abbrev pub decreases-bindings : goal.decreases-bindings
decreases-bindings l = unbound_count l.chains.trail.bound
