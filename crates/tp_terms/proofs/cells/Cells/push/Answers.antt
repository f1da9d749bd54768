use Rattle.std.proofs.Common.{◌≡◌, ap, subst, sym, [], ◌∷◌, ◌++◌, length, map, rules, ◌∙◌}
use Rattle.std.proofs.lemmas.List.{length-map}
use Rattle.tp_terms.specs.Kept.{cell_of}
use Rattle.tp_terms.specs.Shown.{AreBuilt}
use Rattle.tp_terms.proofs.Places.Kept.{map-push, AreBuilt-push}
use Rattle.tp_terms.proofs.Places.Shown.{shows-append, shows-push}
use Rattle.tp_terms.proofs.cells.Cells.push.Goals as goal

stood : (c : goal.In_ok-push) → map cell_of c.self.inside.cells.items ≡ c.args.self.now.items
stood c = ap (λ v. v.items) c.self.view_is

added : (c : goal.In_ok-push) → map cell_of c.push.new.self.items ≡ c.args.self.now.items ++ c.args.cell ∷ []
added c =
    ap (map cell_of) c.in_ok-push.ensures.items
    ∙ map-push c.self.inside.cells.items c.keep.result c.args.cell c.keep.ensures
    ∙ ap (λ x. x ++ c.args.cell ∷ []) (stood c)

pub invariant_of-self-2 : goal.invariant_of-self-2
invariant_of-self-2 c =
    subst AreBuilt (sym (added c))
    (AreBuilt-push c.args.self.now.items c.args.cell (subst AreBuilt (stood c) c.self.invariant) c.requires)

pub returns-clause-shown : goal.returns-clause-shown
returns-clause-shown c =
    let kept : c.len-at.result ≡ length c.self.inside.cells.items = search rules in
    let many : length c.args.self.now.items ≡ length c.self.inside.cells.items = ap length (sym (stood c)) ∙ length-map c.self.inside.cells.items cell_of in
    let place : c.len-at.result ≡ length c.args.self.now.items = kept ∙ sym many in
    rw (added c, place) (λ names. shows-push names _ _)

pub returns-clause-keeps : goal.returns-clause-keeps
returns-clause-keeps c = rw (added c) (λ names at h. shows-append names _ _ at h)
