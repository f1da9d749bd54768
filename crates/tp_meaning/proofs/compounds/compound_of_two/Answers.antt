use Rattle.tp_meaning.proofs.HeapsGrow.Cells.{makes-two}
use Rattle.tp_meaning.proofs.compounds.compound_of_two.Goals as goal

pub returns-clause-made : goal.returns-clause-made
returns-clause-made g c =
    makes-two (g.T.Terms.heap c.args.terms.now) (g.T.Terms.heap c.place.new.self) (g.T.Terms.heap c.place-2.new.self) c.args.left c.args.right c.args.name c.in_ok-first.first c.in_ok-place.field-0
    c.in_ok-first.ensures.value c.in_ok-place.ensures.value c.in_ok-first.ensures.place c.in_ok-place.ensures.place c.requires.left c.requires.right c.requires.name
