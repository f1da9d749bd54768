use Rattle.std.proofs.Common.{subst}
use Rattle.tp_store.specs.Chain.{contents_of}
use Rattle.tp_store.specs.Work.{CellStep, Becomes}
use Rattle.tp_store.proofs.Unifier.Steps.{top_places, becomes_smaller, becomes_places, becomes_same, step_tells}
use Rattle.tp_store.proofs.pairs.next_binding.Goals as goal

pub end-requires-clause-place : goal.end-requires-clause-place
end-requires-clause-place c = (top_places c.args.chains.now.cells.items c.pairs.work.items c.pop.new.self.items (c.in-Some.left, c.in-Some.right) c.pairs.invariant.places c.in-Some.ensures.items).1

pub end-requires-in-Some-clause-place : goal.end-requires-in-Some-clause-place
end-requires-in-Some-clause-place c = (top_places c.args.chains.now.cells.items c.pairs.work.items c.pop.new.self.items (c.in-Some.left, c.in-Some.right) c.pairs.invariant.places c.in-Some.ensures.items).2

pub pairs-smaller : goal.pairs-smaller
pairs-smaller c =
    let now = contents_of c.args.chains.now in
    let left = c.end.result in
    let right = c.end-in-Some.result in
    let s : Becomes now left.cell right.cell c.pop.new.self.items c.compare.new.work.items = subst (CellStep now left.cell right.cell c.pop.new.self.items c.compare.new.work.items) c.in-Same.is (c.in_ok-asked.ensures now c.end.ensures.end c.end-in-Some.ensures.end) in
    becomes_smaller now c.pairs.work.items c.pop.new.self.items c.compare.new.work.items (c.in-Some.left, c.in-Some.right) left.cell right.cell c.in-Some.ensures.items c.end.ensures.same c.end-in-Some.ensures.same s

pub pairs-preserved : goal.pairs-preserved
pairs-preserved c =
    let now = contents_of c.args.chains.now in
    let left = c.end.result in
    let right = c.end-in-Some.result in
    let i = c.pairs.invariant in
    let p = top_places c.args.chains.now.cells.items c.pairs.work.items c.pop.new.self.items (c.in-Some.left, c.in-Some.right) i.places c.in-Some.ensures.items in
    let s : Becomes now left.cell right.cell c.pop.new.self.items c.compare.new.work.items = subst (CellStep now left.cell right.cell c.pop.new.self.items c.compare.new.work.items) c.in-Same.is (c.in_ok-asked.ensures now c.end.ensures.end c.end-in-Some.ensures.end) in
    record {
      places = becomes_places now c.pairs.work.items c.pop.new.self.items c.compare.new.work.items (c.in-Some.left, c.in-Some.right) left.cell right.cell c.in-Some.ensures.items c.end.ensures.same c.end-in-Some.ensures.same s p.0;
      same = λ names f e.
          let k = becomes_same now c.pairs.work.items c.pop.new.self.items c.compare.new.work.items (c.in-Some.left, c.in-Some.right) left.cell right.cell c.in-Some.ensures.items c.end.ensures.same c.end-in-Some.ensures.same s names f e in
          let q = i.same names f e in
          (λ h. k.0 (q.0 h), λ h. q.1 (k.1 h));
    }

pub returns-in_default-2 : goal.returns-in_default-2
returns-in_default-2 c =
    let now = contents_of c.args.chains.now in
    let i = c.pairs.invariant in
    let p = top_places c.args.chains.now.cells.items c.pairs.work.items c.pop.new.self.items (c.in-Some.left, c.in-Some.right) i.places c.in-Some.ensures.items in
    step_tells now c.args.work.now.items c.pairs.work.items c.pop.new.self.items c.compare.new.work.items (c.in-Some.left, c.in-Some.right) c.end.result.cell c.end-in-Some.result.cell c.in_ok-asked.asked
    c.in-Some.ensures.items c.end.ensures.same c.end-in-Some.ensures.same i.same p.0 c.in_default-2.not-Same (c.in_ok-asked.ensures now c.end.ensures.end c.end-in-Some.ensures.end)
