use Rattle.std.proofs.Common.{Ok, subst}
use Rattle.tp_build.specs.Answers.{Does}
use Rattle.tp_meaning.specs.Answers.{succeeds}
use Rattle.tp_build.proofs.RowAnswers.Heaps.{differs-found}
use Rattle.tp_build.proofs.unification.not_unifiable.Goals as goal

pub returns-clause-does : goal.returns-clause-does
returns-clause-does g c =
    let h = g.T.Terms.heap c.args.terms.now in
    let k = g.T.Terms.heap c.unifiable.new.self in
    let adds = c.in_ok-found.ensures.adds in
    subst (λ b. Does h k (Ok (succeeds b h.subst h.next)) c.decided.result) (differs-found h c.args.x.at c.args.y.at c.in_ok-found.found c.requires.heap c.in_ok-found.ensures.found)
    (c.decided.ensures h k adds.subst adds.next)
