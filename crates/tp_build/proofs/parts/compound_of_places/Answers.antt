use Rattle.tp_build.proofs.RowAnswers.Parts.{row-compound}
use Rattle.tp_build.proofs.parts.compound_of_places.Goals as goal

pub returns-clause-shows : goal.returns-clause-shows
returns-clause-shows g c =
    row-compound (g.T.Terms.heap c.args.terms.now) (g.T.Terms.heap c.place_row.new.terms) (g.T.Terms.heap c.place.new.self) c.args.name c.in_ok-first.first c.args.count c.args.places.now c.in_ok-at.at.at c.in_ok-first.ensures.place c.requires.count c.in_ok-first.ensures.row c.in_ok-at.ensures.value c.in_ok-at.ensures.place
