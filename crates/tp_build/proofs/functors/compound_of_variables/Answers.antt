use Rattle.tp_build.proofs.RowAnswers.Functor.{compound-stands, compound-made}
use Rattle.tp_build.proofs.functors.compound_of_variables.Goals as goal

pub place-requires-clause-cell : goal.place-requires-clause-cell
place-requires-clause-cell g c =
    compound-stands (g.T.Terms.heap c.args.terms.now) (g.T.Terms.heap c.variables.new.terms) c.args.name c.in_ok-first.first c.args.count c.in_ok-first.ensures.value c.in_ok-first.ensures.place c.requires.name c.requires.count

pub returns-clause-made : goal.returns-clause-made
returns-clause-made g c =
    compound-made (g.T.Terms.heap c.args.terms.now) (g.T.Terms.heap c.variables.new.terms) (g.T.Terms.heap c.place.new.self) c.args.name c.in_ok-first.first c.args.count c.in_ok-at.at.at c.in_ok-first.ensures.value c.in_ok-first.ensures.place c.in_ok-at.ensures.value c.in_ok-at.ensures.place
