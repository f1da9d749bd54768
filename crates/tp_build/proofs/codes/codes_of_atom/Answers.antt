use Rattle.std.proofs.Common.{◌∙◌}
use Rattle.tp_build.proofs.RowAnswers.Codes.{codes-does}
use Rattle.tp_build.proofs.codes.codes_of_atom.Goals as goal

pub returns-clause-does : goal.returns-clause-does
returns-clause-does g c =
    codes-does (g.T.Terms.heap c.args.terms.now) (g.T.Terms.heap c.list_of_codes.new.terms) (g.T.Terms.heap c.place.new.self) (g.T.Terms.heap c.unify.new.terms) c.args.list.at c.args.name _ c.deref.result.now c.in_ok-codes.codes c.in_ok-at.at.at c.unify.result c.name.ensures.name (c.deref.ensures.value ∙ c.in_ok-name.ensures) c.in_ok-codes.ensures.made c.in_ok-at.ensures.value c.in_ok-at.ensures.place c.requires.list c.unify.ensures.does
