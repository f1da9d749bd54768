use Rattle.std.proofs.Common.{rules, Ok, sym, subst, ap, ◌∙◌}
use Rattle.std.specs.Prelude.{FitsSigned}
use Rattle.std.specs.Int.{w64, cast_signed, cast_unsigned}
use Rattle.std.proofs.lemmas.Int.{to_z-of_z}
use Rattle.tp_terms.specs.Term.{Int}
use Rattle.tp_meaning.specs.Heap.{seen}
use Rattle.tp_build.specs.declared.outcome.Outcome.TheVariants as outcome
use Rattle.tp_build.specs.Answers.{Does, unifies}
use Rattle.tp_meaning.specs.Builtin.{is_value}
use Rattle.tp_build.proofs.RowAnswers.Heaps.{IfOk-map, is-known, is-raised-by}
use Rattle.tp_build.proofs.arithmetic.evaluate_and_unify.Goals as goal

pub returns-in-Ok-clause-does : goal.returns-in-Ok-clause-does
returns-in-Ok-clause-does g c =
    let h = g.T.Terms.heap c.args.terms.now in
    let k = g.T.Terms.heap c.eval.new.terms in
    let l = g.T.Terms.heap c.unify_number.new.terms in
    let z = (cast_signed w64 (cast_unsigned w64 c.in-Ok.value)) in
    let fits : FitsSigned w64 c.in-Ok.value = search rules in
    IfOk-map c.unify_number.result (Does k l (Ok (unifies k.subst k.next (seen k c.args.x.at) (Int z)))) (Does h l (is_value h.subst h.next (seen h c.args.x.at) (seen h c.args.e.at)))
    (λ o d. is-known h k l c.args.x.at c.args.e.at z o c.requires.heap (c.in-Ok.ensures.value ∙ ap Ok (sym (to_z-of_z w64 c.in-Ok.value fits))) c.in-Ok.ensures.adds c.requires.x d) c.unify_number.ensures.does

pub returns-in-Err-Raised-clause-does : goal.returns-in-Err-Raised-clause-does
returns-in-Err-Raised-clause-does g c =
    let h = g.T.Terms.heap c.args.terms.now in
    let k = g.T.Terms.heap c.eval.new.terms in
    subst (λ r. Does h k (is_value h.subst h.next (seen h c.args.x.at) (seen h c.args.e.at)) (outcome.Raise r)) (sym c.in-Err-Raised.at-is)
    (is-raised-by h k c.args.x.at c.args.e.at c.in-Err-Raised.field-0 c.in-Err-Raised.at c.in-Err-Raised.field-0-is c.requires.heap c.in-Err-Raised.ensures.value c.in-Err-Raised.ensures.adds)
