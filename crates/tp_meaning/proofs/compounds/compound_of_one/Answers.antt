use Rattle.tp_meaning.proofs.HeapsGrow.Cells.{makes-one}
use Rattle.tp_meaning.proofs.compounds.compound_of_one.Goals as goal

pub returns-clause-made : goal.returns-clause-made
returns-clause-made g c =
    makes-one (g.T.Terms.heap c.args.terms.now) (g.T.Terms.heap c.place.new.self) c.args.argument c.args.name c.in_ok-first.first c.in_ok-first.ensures.value c.in_ok-first.ensures.place c.requires.argument c.requires.name
