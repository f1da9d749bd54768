use Rattle.tp_build.proofs.RowAnswers.Parts.{place-shown}
use Rattle.tp_build.proofs.parts.place_top.Goals as goal

pub returns-clause-shows : goal.returns-clause-shows
returns-clause-shows g c =
    place-shown (g.T.Terms.heap c.args.terms.now) (g.T.Terms.heap c.place.new.self) c.look-cell.result c.args.at.at c.look-cell.ensures.top c.in_ok-place.ensures.value
