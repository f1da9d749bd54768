use Rattle.std.proofs.Common.{◌≡◌, pos, SFits, w64, rules, ap, ◌∙◌}
use Rattle.std.proofs.lemmas.Int.{to_z-of_z}
use Rattle.tp_build.proofs.RowAnswers.Heaps.{length-does}
use Rattle.tp_build.proofs.atoms.atom_length.Goals as goal

pub raise-requires-clause-fault : goal.raise-requires-clause-fault
raise-requires-clause-fault g c =
    let h = g.T.Terms.heap c.args.terms.now in
    (c.in-Err.ensures h c.args.atom.at c.args.number.at c.look.ensures.top c.look-2.ensures.top h.subst h.next).stands

pub returns-in_ok-count-in-Ok-clause-does : goal.returns-in_ok-count-in-Ok-clause-does
returns-in_ok-count-in-Ok-clause-does g c =
    let h = g.T.Terms.heap c.args.terms.now in
    let fits : SFits w64 c.in_ok-count-in-Ok.count = search rules in
    let e : c.in_ok-count-in-Ok.count ≡ pos c.characters_in.result = c.in_ok-count-in-Ok.ensures in
    length-does h (g.T.Terms.heap c.unify_number.new.terms) c.args.atom.at c.args.number.at c.in-Ok.name _ _ c.unify_number.result
    (c.in-Ok.ensures h c.args.atom.at c.args.number.at c.look.ensures.top c.look-2.ensures.top) c.name.ensures.name (to_z-of_z w64 c.in_ok-count-in-Ok.count fits ∙ e ∙ ap pos c.characters_in.ensures) c.unify_number.ensures.does
