use Rattle.std.proofs.Common.{subst}
use Rattle.tp_meaning.specs.Heap.{FindsUnifier}
use Rattle.tp_build.proofs.RowAnswers.Heaps.{does-found, does-none, false-not-true}
use Rattle.tp_build.proofs.unification.unify.Goals as goal

pub returns-then-found-clause-does : goal.returns-then-found-clause-does
returns-then-found-clause-does g c =
    let h = g.T.Terms.heap c.args.terms.now in
    let k = g.T.Terms.heap c.unify.new.self in
    does-found h k c.args.x.at c.args.y.at c.requires.heap (subst (FindsUnifier h k c.args.x.at c.args.y.at) c.if-found.true c.in_ok-found.ensures.found) c.in_ok-found.ensures.adds

pub returns-else-found-clause-does : goal.returns-else-found-clause-does
returns-else-found-clause-does g c =
    let h = g.T.Terms.heap c.args.terms.now in
    let k = g.T.Terms.heap c.unify.new.self in
    does-none h k c.args.x.at c.args.y.at c.requires.heap (subst (FindsUnifier h k c.args.x.at c.args.y.at) c.if-found.false c.in_ok-found.ensures.found) (c.in_ok-found.ensures.unchanged (λ p. false-not-true c.in_ok-found.found c.if-found.false p))
