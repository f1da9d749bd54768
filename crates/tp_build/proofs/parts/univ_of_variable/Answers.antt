use Rattle.tp_meaning.specs.Heap.{seen}
use Rattle.tp_build.proofs.RowAnswers.Parts.{elements-does, elements-fail}
use Rattle.tp_build.proofs.parts.univ_of_variable.Goals as goal

pub returns-in-Ok-clause-does : goal.returns-in-Ok-clause-does
returns-in-Ok-clause-does g c =
    let h = g.T.Terms.heap c.args.terms.now in
    elements-does h (g.T.Terms.heap c.make_and_unify.new.terms) (seen h c.args.term.at) c.args.list.at c.in_ok-walked.walked c.deref.result.now c.make_and_unify.result c.in_ok-walked.ensures (c.in-Ok.ensures h c.args.list.at c.look.ensures.top) c.deref.ensures.value c.make_and_unify.ensures.does

pub returns-clause-does : goal.returns-clause-does
returns-clause-does g c =
    let h = g.T.Terms.heap c.args.terms.now in
    elements-fail h (g.T.Terms.heap c.raise.new.terms) (seen h c.args.term.at) c.args.list.at c.in_ok-walked.walked c.in-Err.fault c.raise.result c.in_ok-walked.ensures (c.in-Err.ensures h c.args.list.at c.look.ensures.top) c.raise.ensures.does
