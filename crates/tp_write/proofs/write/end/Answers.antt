use Rattle.tp_write.proofs.BindingsEnd.Chains.{reach-step, under-step, ends-at}
use Rattle.tp_write.proofs.write.end.Goals as goal

pub chain-smaller : goal.chain-smaller
chain-smaller g c =
    reach-step (g.B.Binds.bindings c.args.binds.now) c.args.cells.now.items c.requires.fits c.chain.cell c.get-cell-in-Some.result c.in-Some.next c.in-Some.ensures c.get-cell-in-Some.ensures.value c.get-cell-in-Some.ensures.before

pub chain-preserved : goal.chain-preserved
chain-preserved g c = record {
  stands = c.get-cell-in-Some.ensures.value;
  before = c.get-cell-in-Some.ensures.before;
  same = under-step (g.B.Binds.bindings c.args.binds.now) c.args.cells.now.items c.requires.fits c.args.at.at c.chain.place.at c.chain.cell c.in-Some.next c.chain.invariant.stands c.in-Some.ensures c.chain.invariant.same;
}

pub returns : goal.returns
returns g c =
    ends-at (g.B.Binds.bindings c.args.binds.now) c.args.cells.now.items c.requires.fits c.args.at.at c.chain.place c.chain.cell c.chain.invariant.stands c.chain.invariant.before c.in_default.ensures c.chain.invariant.same
