use Rattle.std.proofs.Common.{Ok, subst, ap, ◌∙◌}
use Rattle.tp_build.specs.Answers.{Does}
use Rattle.tp_meaning.specs.Answers.{succeeds}
use Rattle.tp_build.specs.Builtin.{in_order}
use Rattle.tp_build.proofs.order.compare_terms.Goals as goal

pub returns-clause-does : goal.returns-clause-does
returns-clause-does g c =
    let h = g.T.Terms.heap c.args.terms.now in
    let k = g.T.Terms.heap c.compare.new.self in
    let adds = c.in_ok-order.ensures.adds in
    subst (λ b. Does h k (Ok (succeeds b h.subst h.next)) c.decided.result) (c.holds.ensures ∙ ap (in_order c.args.relation) c.in_ok-order.ensures.order)
    (c.decided.ensures h k adds.subst adds.next)
