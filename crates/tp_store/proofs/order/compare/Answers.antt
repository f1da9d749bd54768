use Rattle.std.proofs.Common.{◌∙◌}
use Rattle.tp_terms.proofs.Places.Shown.{AreNamed-cell}
use Rattle.tp_store.specs.Chain.{contents_of}
use Rattle.tp_store.proofs.Comparison.Ranked.{ranks_places, ranks_smaller, ranks_same, ranks_decide}
use Rattle.tp_store.proofs.order.compare.Goals as goal

pub compare_ends-requires-clause-left_named : goal.compare_ends-requires-clause-left_named
compare_ends-requires-clause-left_named c = AreNamed-cell _ c.args.chains.now.cells.items c.end.result.place.at c.end.result.cell c.requires.named c.end.ensures.end.cell

pub compare_ends-requires-clause-right_named : goal.compare_ends-requires-clause-right_named
compare_ends-requires-clause-right_named c =
    AreNamed-cell _ c.args.chains.now.cells.items c.end-in-Some.result.place.at c.end-in-Some.result.cell c.requires.named c.end-in-Some.ensures.end.cell

pub pairs-smaller : goal.pairs-smaller
pairs-smaller c =
    let now = contents_of c.args.chains.now in
    ranks_smaller c.args.atoms.now now c.pairs.work.items c.pop.new.self.items c.compare_ends.new.work.items (c.in-Some.left, c.in-Some.right) c.end.result.cell c.end-in-Some.result.cell
    c.in_ok-order.order c.in-Some.ensures.items c.end.ensures.same c.end-in-Some.ensures.same (c.in_ok-order.ensures now c.requires.chains.store c.end.ensures.end c.end-in-Some.ensures.end)

pub pairs-preserved : goal.pairs-preserved
pairs-preserved c =
    let now = contents_of c.args.chains.now in
    let r = c.in_ok-order.ensures now c.requires.chains.store c.end.ensures.end c.end-in-Some.ensures.end in
    record {
      places = ranks_places c.args.atoms.now now c.pairs.work.items c.pop.new.self.items c.compare_ends.new.work.items (c.in-Some.left, c.in-Some.right) c.end.result.cell c.end-in-Some.result.cell
          c.in_ok-order.order c.in-Some.ensures.items c.end.ensures.same c.end-in-Some.ensures.same r c.pairs.invariant.places;
      same = ranks_same c.args.atoms.now now c.pairs.work.items c.pop.new.self.items c.compare_ends.new.work.items (c.in-Some.left, c.in-Some.right) c.end.result.cell c.end-in-Some.result.cell
          c.in_ok-order.order c.in-Some.ensures.items c.end.ensures.same c.end-in-Some.ensures.same r c.in-Equal.is
          ∙ c.pairs.invariant.same;
    }

pub returns-in_default-2 : goal.returns-in_default-2
returns-in_default-2 c =
    let now = contents_of c.args.chains.now in
    ranks_decide c.args.atoms.now now c.pairs.work.items c.pop.new.self.items c.compare_ends.new.work.items (c.in-Some.left, c.in-Some.right) c.end.result.cell c.end-in-Some.result.cell
    c.in_ok-order.order c.in-Some.ensures.items c.end.ensures.same c.end-in-Some.ensures.same (c.in_ok-order.ensures now c.requires.chains.store c.end.ensures.end c.end-in-Some.ensures.end)
    c.in_default-2.not-Equal
    ∙ c.pairs.invariant.same
