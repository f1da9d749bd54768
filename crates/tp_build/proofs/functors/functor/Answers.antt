use Rattle.tp_meaning.specs.Heap.{seen}
use Rattle.tp_build.proofs.RowAnswers.Functor.{functor-variable, functor-compound}
use Rattle.tp_build.proofs.functors.functor.Goals as goal

pub returns-in-Var-clause-does : goal.returns-in-Var-clause-does
returns-in-Var-clause-does g c =
    let h = g.T.Terms.heap c.args.terms.now in
    functor-variable h (g.T.Terms.heap c.functor_of_variable.new.terms) c.args.term.at c.in-Var.field-0 c.look-cell.result (seen h c.args.name.at) (seen h c.args.count.at) c.functor_of_variable.result c.in-Var.is c.look-cell.ensures.top c.functor_of_variable.ensures.does

pub returns-in-Comp-clause-does : goal.returns-in-Comp-clause-does
returns-in-Comp-clause-does g c =
    let h = g.T.Terms.heap c.args.terms.now in
    functor-compound h (g.T.Terms.heap c.functor_of_known-in-Comp.new.terms) c.args.term.at c.look-cell.result c.in-Comp.own c.in-Comp.first c.in-Comp.arity (seen h c.args.name.at) (seen h c.args.count.at) c.functor_of_known-in-Comp.result c.in-Comp.is c.look-cell.ensures.top c.functor_of_known-in-Comp.ensures.does
