use Rattle.tp_meaning.specs.Heap.{seen}
use Rattle.tp_build.proofs.RowAnswers.Functor.{variable-does, variable-fails}
use Rattle.tp_build.proofs.functors.functor_of_variable.Goals as goal

pub raise-requires-clause-fault : goal.raise-requires-clause-fault
raise-requires-clause-fault g c =
    (c.in-Err.ensures (g.T.Terms.heap c.args.terms.now) c.args.name.at c.args.count.at c.look.ensures.top c.look-2.ensures.top).stands

pub returns-in-Ok-clause-does : goal.returns-in-Ok-clause-does
returns-in-Ok-clause-does g c =
    let h = g.T.Terms.heap c.args.terms.now in
    variable-does h (g.T.Terms.heap c.make_and_unify.new.terms) (seen h c.args.term.at) (seen h c.args.name.at) (seen h c.args.count.at) c.in-Ok.wanted c.make_and_unify.result
    (c.in-Ok.ensures h c.args.name.at c.args.count.at c.look.ensures.top c.look-2.ensures.top) c.make_and_unify.ensures.does

pub returns-in-Err-clause-does : goal.returns-in-Err-clause-does
returns-in-Err-clause-does g c =
    let h = g.T.Terms.heap c.args.terms.now in
    variable-fails h (g.T.Terms.heap c.raise.new.terms) (seen h c.args.term.at) (seen h c.args.name.at) (seen h c.args.count.at) c.in-Err.fault c.raise.result
    (c.in-Err.ensures h c.args.name.at c.args.count.at c.look.ensures.top c.look-2.ensures.top) c.raise.ensures.does
