use Rattle.std.proofs.Common.{◌≡◌, List, true, subst, sym, ◌∙◌}
use Rattle.tp_terms.specs.Term.{Name, occurs}
use Rattle.tp_store.specs.Contents.{seen_cell}
use Rattle.tp_store.specs.Chain.{contents_of}
use Rattle.tp_store.specs.Work.{VisitStep, Visits}
use Rattle.tp_store.proofs.Unifier.Steps.{top_place, visits_found, visits_same, visits_places, visits_smaller}
use Rattle.tp_store.proofs.pairs.occurs_at.Goals as goal

pub end-requires-clause-place : goal.end-requires-clause-place
end-requires-clause-place c = (top_place c.args.chains.now.cells.items c.visits.work.items c.pop.new.self.items c.in-Some.at c.visits.invariant.places c.in-Some.ensures.items).1

pub returns-then-branch : goal.returns-then-branch
returns-then-branch c =
    let now = contents_of c.args.chains.now in
    let s : (names : List Name) → occurs c.args.number (seen_cell names now c.end.result.cell) ≡ true =
    subst (VisitStep now c.args.number c.end.result.cell c.pop.new.self.items c.visit.new.work.items) c.if-branch.true (c.in_ok-visit.ensures now c.requires.chains.store c.end.ensures.end) in
    λ names.
    sym (visits_found now c.args.number c.visits.work.items c.pop.new.self.items c.visit.new.work.items c.in-Some.at c.end.result.cell c.in-Some.ensures.items c.end.ensures.same s names)
    ∙ c.visits.invariant.same names

pub visits-smaller : goal.visits-smaller
visits-smaller c =
    let now = contents_of c.args.chains.now in
    let s : Visits now c.args.number c.end.result.cell c.pop.new.self.items c.visit.new.work.items =
    subst (VisitStep now c.args.number c.end.result.cell c.pop.new.self.items c.visit.new.work.items) c.if-branch.false (c.in_ok-visit.ensures now c.requires.chains.store c.end.ensures.end) in
    visits_smaller now c.args.number c.visits.work.items c.pop.new.self.items c.visit.new.work.items c.in-Some.at c.end.result.cell c.in-Some.ensures.items c.end.ensures.same s

pub visits-preserved : goal.visits-preserved
visits-preserved c =
    let now = contents_of c.args.chains.now in
    let s : Visits now c.args.number c.end.result.cell c.pop.new.self.items c.visit.new.work.items =
    subst (VisitStep now c.args.number c.end.result.cell c.pop.new.self.items c.visit.new.work.items) c.if-branch.false (c.in_ok-visit.ensures now c.requires.chains.store c.end.ensures.end) in
    let p = top_place c.args.chains.now.cells.items c.visits.work.items c.pop.new.self.items c.in-Some.at c.visits.invariant.places c.in-Some.ensures.items in
    record {
      places = visits_places now c.args.number c.visits.work.items c.pop.new.self.items c.visit.new.work.items c.in-Some.at c.end.result.cell c.in-Some.ensures.items c.end.ensures.same s p.0;
      same = λ names.
          visits_same now c.args.number c.visits.work.items c.pop.new.self.items c.visit.new.work.items c.in-Some.at c.end.result.cell c.in-Some.ensures.items c.end.ensures.same s names
          ∙ c.visits.invariant.same names;
    }
