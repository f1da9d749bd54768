use Rattle.std.proofs.Common.{rules, ◌≡◌, ◌∷◌, Err, reverse, sym, subst, ap, ◌∙◌}
use Rattle.std.specs.Prelude.{FitsSigned}
use Rattle.std.specs.Int.{w64}
use Rattle.std.proofs.lemmas.Result.{err_from_is_err_and}
use Rattle.tp_meaning.specs.Arith.{evaluated}
use Rattle.tp_meaning.specs.Heap.{seen}
use Rattle.tp_arith.specs.declared.evaluate.Next.TheVariants.{Give}
use Rattle.tp_arith.specs.Work.{AreWaiting, Gives, finished, outcome, all_weight}
use Rattle.tp_arith.proofs.Evaluation.Bounds.{bits_of, bits_of-fits}
use Rattle.tp_arith.proofs.Evaluation.Steps.{newest-of, stopped-gives}
use Rattle.tp_arith.proofs.evaluate.evaluate.Goals as goal

pub returns-in_err-next-in-Give : goal.returns-in_err-next-in-Give
returns-in_err-next-in-Give g c =
    let h = g.T.Terms.heap c.args.terms.now in
    let top = c.in-Some.top in
    let ws = reverse c.pop.new.self.items in
    let newest = newest-of c.steps.waiting.items c.pop.new.self.items c.pop.result top c.pop.ensures.items c.in-Some.is in
    let stand = subst (AreWaiting h) newest c.steps.invariant.waiting_stand in
    let fits : FitsSigned w64 c.in-Give.value = search rules in
    let same : finished h (top ∷ ws) (bits_of c.in-Give.value) ≡ evaluated (seen h c.args.at.at) =
    ap (finished h (top ∷ ws)) (bits_of-fits c.in-Give.value fits) ∙ ap (outcome h (Give c.in-Give.value)) (sym newest) ∙ ap (λ n. outcome h n (reverse c.steps.waiting.items)) (sym c.in-Give.is) ∙ c.steps.invariant.same in
    let p = err_from_is_err_and c.from_residual-in_err-next-in-Give.result c.from_residual-in_err-next-in-Give.ensures.1 in
    subst (Gives h (evaluated (seen h c.args.at.at))) (sym (p.1 ∙ ap Err p.2))
    (stopped-gives h (finished h (top ∷ ws) (bits_of c.in-Give.value)) (evaluated (seen h c.args.at.at)) (all_weight h (Give (bits_of c.in-Give.value)) (top ∷ ws)) c.in_err-next-in-Give.field-0.0 (reverse c.resume.new.waiting.items) same (c.in_err-next-in-Give.ensures h stand.0 stand.1))

pub steps-preserved : goal.steps-preserved
steps-preserved g c =
    let h = g.T.Terms.heap c.args.terms.now in
    let top = c.in-Some.top in
    let ws = reverse c.pop.new.self.items in
    let newest = newest-of c.steps.waiting.items c.pop.new.self.items c.pop.result top c.pop.ensures.items c.in-Some.is in
    let stand = subst (AreWaiting h) newest c.steps.invariant.waiting_stand in
    let fits : FitsSigned w64 c.in-Give.value = search rules in
    let same : finished h (top ∷ ws) (bits_of c.in-Give.value) ≡ evaluated (seen h c.args.at.at) =
    ap (finished h (top ∷ ws)) (bits_of-fits c.in-Give.value fits) ∙ ap (outcome h (Give c.in-Give.value)) (sym newest) ∙ ap (λ n. outcome h n (reverse c.steps.waiting.items)) (sym c.in-Give.is) ∙ c.steps.invariant.same in
    let step = c.in_ok-next-in-Give.ensures h stand.0 stand.1 in
    record { same = step.same ∙ same; next_stands = step.next_stands; waiting_stand = step.waiting_stand }
