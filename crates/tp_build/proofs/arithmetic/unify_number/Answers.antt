use Rattle.std.proofs.Common.{rules, Ok, subst}
use Rattle.std.specs.Prelude.{FitsSigned}
use Rattle.std.specs.Int.{w64, cast_signed, cast_unsigned}
use Rattle.std.proofs.lemmas.Int.{to_z-of_z}
use Rattle.tp_terms.specs.Term.{Int}
use Rattle.tp_meaning.specs.Heap.{seen}
use Rattle.tp_build.specs.Answers.{Does, unifies}
use Rattle.tp_build.proofs.RowAnswers.Heaps.{does-number}
use Rattle.tp_build.proofs.arithmetic.unify_number.Goals as goal

pub returns-clause-does : goal.returns-clause-does
returns-clause-does g c =
    let h = g.T.Terms.heap c.args.terms.now in
    let l = g.T.Terms.heap c.unify.new.terms in
    let fits : FitsSigned w64 c.args.value = search rules in
    subst (λ z. Does h l (Ok (unifies h.subst h.next (seen h c.args.x.at) (Int z))) c.in_ok-outcome.outcome) (to_z-of_z w64 c.args.value fits)
    (does-number h (g.T.Terms.heap c.place.new.self) l c.args.x.at c.in_ok-number.number.at (cast_signed w64 (cast_unsigned w64 c.args.value)) c.in_ok-outcome.outcome c.in_ok-number.ensures.value c.in_ok-number.ensures.place c.requires.x c.in_ok-outcome.ensures.does)
