use Rattle.std.proofs.Common.{rules, ◌≡◌, Bool, Err, sym, subst, ap, ◌∙◌}
use Rattle.std.specs.Prelude.{FitsSigned}
use Rattle.std.specs.Int.{w64}
use Rattle.std.proofs.lemmas.Result.{err_from_is_err_and}
use Rattle.tp_meaning.specs.Arith.{evaluated, value}
use Rattle.tp_meaning.specs.Heap.{shown}
use Rattle.tp_meaning.proofs.HeapsGrow.Cells.{seen-kept}
use Rattle.tp_arith.specs.Values.{Evaluates, holds}
use Rattle.tp_arith.proofs.Evaluation.Bounds.{bits_of, bits_of-fits}
use Rattle.tp_arith.proofs.Evaluation.Comparisons.{tested, tested-right, tested-both}
use Rattle.tp_arith.proofs.compare_numbers.Goals as goal

pub returns-in_err-y-clause-value : goal.returns-in_err-y-clause-value
returns-in_err-y-clause-value g c =
    let h = g.T.Terms.heap c.args.terms.now in
    let k = g.T.Terms.heap c.eval.new.terms in
    let l = g.T.Terms.heap c.eval-2.new.terms in
    let test = holds c.args.relation in
    let left = value h.subst (shown h c.args.a.at) in
    let right = value h.subst (shown h c.args.b.at) in
    let later = value k.subst (shown k c.args.b.at) in
    let same : later ≡ right = ap evaluated (seen-kept h k c.in_ok-x.ensures.adds c.args.b.at c.requires.b) in
    let p = err_from_is_err_and c.from_residual-in_err-y.result c.from_residual-in_err-y.ensures.1 in
    subst (Evaluates {A = Bool} l (tested test left right)) (sym (p.1 ∙ ap Err p.2))
    (tested-right l test left right later c.in_ok-x.x c.in_err-y.field-0.0 c.in_ok-x.ensures.value same c.in_err-y.ensures.value)

pub returns-clause-value : goal.returns-clause-value
returns-clause-value g c =
    let h = g.T.Terms.heap c.args.terms.now in
    let k = g.T.Terms.heap c.eval.new.terms in
    let l = g.T.Terms.heap c.eval-2.new.terms in
    let test = holds c.args.relation in
    let left = value h.subst (shown h c.args.a.at) in
    let right = value h.subst (shown h c.args.b.at) in
    let later = value k.subst (shown k c.args.b.at) in
    let same : later ≡ right = ap evaluated (seen-kept h k c.in_ok-x.ensures.adds c.args.b.at c.requires.b) in
    let x_fits : FitsSigned w64 c.in_ok-x.x = search rules in
    let y_fits : FitsSigned w64 c.in_ok-y.y = search rules in
    let answer = c.holds.ensures ∙ ap (λ v. test v (bits_of c.in_ok-y.y)) (bits_of-fits c.in_ok-x.x x_fits) ∙ ap (test c.in_ok-x.x) (bits_of-fits c.in_ok-y.y y_fits) in
    tested-both l test left right later c.in_ok-x.x c.in_ok-y.y c.holds.result c.in_ok-x.ensures.value same c.in_ok-y.ensures.value answer
