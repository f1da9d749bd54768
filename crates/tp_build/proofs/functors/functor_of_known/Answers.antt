use Rattle.std.proofs.Common.{◌≡◌, Ok, IfOk, pos, SFits, w64, rules, subst, ◌∙◌}
use Rattle.std.proofs.lemmas.Int.{to_z-of_z}
use Rattle.tp_terms.specs.Term.{Int}
use Rattle.tp_meaning.specs.Heap.{seen, cell_shown}
use Rattle.tp_meaning.specs.Answers.{unifies, then_unifies}
use Rattle.tp_build.specs.Answers.{Does}
use Rattle.tp_build.proofs.RowAnswers.Functor.{known-does}
use Rattle.tp_build.proofs.functors.functor_of_known.Goals as goal

pub returns-clause-does : goal.returns-clause-does
returns-clause-does g c =
    let h = g.T.Terms.heap c.args.terms.now in
    let m = g.T.Terms.heap c.unify.new.terms in
    let fits : SFits w64 c.from.result = search rules in
    let e : c.from.result ≡ pos c.args.arity = c.from.ensures in
    subst (λ z. IfOk c.unify.result (Does h m (Ok (then_unifies (unifies h.subst h.next (seen h c.args.name.at) (cell_shown h c.args.own)) (seen h c.args.count.at) (Int z))))) (to_z-of_z w64 c.from.result fits ∙ e)
    (known-does h (g.T.Terms.heap c.pair.new.terms) (g.T.Terms.heap c.pair-2.new.terms) m c.args.name.at c.args.count.at c.look-left.result c.look-right.result c.args.own _ c.in_ok-wanted.wanted.at c.in_ok-given.given.at c.unify.result c.requires.heap c.look-left.ensures.top c.look-right.ensures.top c.requires.own c.requires.constant
    c.in_ok-wanted.ensures.made c.in_ok-wanted.ensures.shown c.in_ok-wanted.ensures.adds c.in_ok-given.ensures.shown c.in_ok-given.ensures.adds c.unify.ensures.does)
