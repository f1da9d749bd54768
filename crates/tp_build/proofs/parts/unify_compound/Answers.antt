use Rattle.tp_meaning.specs.Heap.{seen}
use Rattle.tp_build.proofs.RowAnswers.Parts.{compound-does, compound-fails}
use Rattle.tp_build.proofs.parts.unify_compound.Goals as goal

pub returns-in_ok-compound-in-Ok-clause-does : goal.returns-in_ok-compound-in-Ok-clause-does
returns-in_ok-compound-in-Ok-clause-does g c =
    let h = g.T.Terms.heap c.args.terms.now in
    compound-does h (g.T.Terms.heap c.compound_of_places.new.terms) (g.T.Terms.heap c.unify.new.terms) c.args.term.at c.args.name.at c.args.arguments.now c.in-Ok.head c.in_ok-compound-in-Ok.compound.at c.unify.result c.requires.some
    (c.in-Ok.ensures h c.args.name.at c.look.ensures.top) c.in_ok-compound-in-Ok.ensures.shows c.requires.term c.unify.ensures.does

pub returns-in-Err-clause-does : goal.returns-in-Err-clause-does
returns-in-Err-clause-does g c =
    let h = g.T.Terms.heap c.args.terms.now in
    compound-fails h (g.T.Terms.heap c.raise.new.terms) (seen h c.args.term.at) c.args.name.at c.args.arguments.now c.in-Err.fault c.raise.result c.requires.some (c.in-Err.ensures h c.args.name.at c.look.ensures.top) c.raise.ensures.does
