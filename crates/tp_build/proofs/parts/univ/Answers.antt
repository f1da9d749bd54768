use Rattle.tp_meaning.specs.Heap.{seen}
use Rattle.tp_build.proofs.RowAnswers.Parts.{univ-variable, parts-does}
use Rattle.tp_build.proofs.parts.univ.Goals as goal

pub returns-in-Var-clause-does : goal.returns-in-Var-clause-does
returns-in-Var-clause-does g c =
    let h = g.T.Terms.heap c.args.terms.now in
    univ-variable h (g.T.Terms.heap c.univ_of_variable.new.terms) c.args.term.at c.in-Var.field-0 c.look-cell.result (seen h c.args.list.at) c.univ_of_variable.result c.in-Var.is c.look-cell.ensures.top c.univ_of_variable.ensures.does

pub returns-in_ok-at-in_default-clause-does : goal.returns-in_ok-at-in_default-clause-does
returns-in_ok-at-in_default-clause-does g c =
    parts-does (g.T.Terms.heap c.args.terms.now) (g.T.Terms.heap c.list_of_parts.new.terms) (g.T.Terms.heap c.place.new.self) (g.T.Terms.heap c.unify.new.terms) c.args.term.at c.args.list.at c.look-cell.result c.in_ok-parts-in_default.parts c.in_ok-at-in_default.at.at c.unify.result c.in_default.not-Var c.look-cell.ensures.top c.in_ok-parts-in_default.ensures.made c.in_ok-at-in_default.ensures.value c.in_ok-at-in_default.ensures.place c.requires.list c.unify.ensures.does
