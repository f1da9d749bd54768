use Rattle.std.proofs.Common.{sym, subst}
use Rattle.tp_meaning.specs.Heap.{seen}
use Rattle.tp_build.specs.Builtin.{compares}
use Rattle.tp_build.specs.declared.outcome.Outcome.TheVariants as outcome
use Rattle.tp_build.specs.Answers.{Does}
use Rattle.tp_build.proofs.RowAnswers.Heaps.{compares-known, compares-raised-by}
use Rattle.tp_build.proofs.arithmetic.compare_values.Goals as goal

pub returns-in-Ok-clause-does : goal.returns-in-Ok-clause-does
returns-in-Ok-clause-does g c =
    let h = g.T.Terms.heap c.args.terms.now in
    let k = g.T.Terms.heap c.compare_numbers.new.terms in
    let adds = c.in-Ok.ensures.adds in
    subst (λ a. Does h k a c.decided.result) (sym (compares-known h c.args.relation c.args.x.at c.args.y.at c.in-Ok.holds c.requires.heap c.in-Ok.ensures.value))
    (c.decided.ensures h k adds.subst adds.next)

pub returns-in-Err-Raised-clause-does : goal.returns-in-Err-Raised-clause-does
returns-in-Err-Raised-clause-does g c =
    let h = g.T.Terms.heap c.args.terms.now in
    let k = g.T.Terms.heap c.compare_numbers.new.terms in
    subst (λ r. Does h k (compares c.args.relation h.subst h.next (seen h c.args.x.at) (seen h c.args.y.at)) (outcome.Raise r)) c.in-Err-Raised.at-is
    (compares-raised-by h k c.args.relation c.args.x.at c.args.y.at c.in-Err-Raised.field-0 c.in-Err-Raised.at c.in-Err-Raised.field-0-is c.requires.heap c.in-Err-Raised.ensures.value c.in-Err-Raised.ensures.adds)
