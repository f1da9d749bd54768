use Rattle.std.proofs.Common.{length, sym, ◌∙◌}
use Rattle.std.proofs.lemmas.Bool.{eqb-true}
use Rattle.tp_meaning.specs.Heap.{seen}
use Rattle.tp_build.proofs.PlacesShow.Lists.{empty-stands}
use Rattle.tp_build.proofs.RowAnswers.Parts.{empty-does, rest-within}
use Rattle.tp_build.proofs.parts.make_and_unify.Goals as goal

pub raise-requires-clause-fault : goal.raise-requires-clause-fault
raise-requires-clause-fault g c = empty-stands (g.T.Terms.heap c.args.terms.now) c.requires.heap

pub returns-then-is_empty-clause-does : goal.returns-then-is_empty-clause-does
returns-then-is_empty-clause-does g c =
    let h = g.T.Terms.heap c.args.terms.now in
    empty-does h (g.T.Terms.heap c.raise.new.terms) (seen h c.args.term.at) c.args.elements.now c.raise.result c.requires.heap (eqb-true (length c.args.elements.now) 0 (sym c.is_empty.ensures ∙ c.if-is_empty.true)) c.raise.ensures.does

pub unify_compound-requires-clause-within : goal.unify_compound-requires-clause-within
unify_compound-requires-clause-within g c = rest-within (g.T.Terms.heap c.args.terms.now) c.args.elements.now c.requires.within
