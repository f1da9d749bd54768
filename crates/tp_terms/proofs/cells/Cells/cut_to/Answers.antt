use Rattle.std.proofs.Common.{◌≡◌, ap, map, sym, subst, take, ◌∙◌}
use Rattle.std.proofs.lemmas.List.{take-map}
use Rattle.tp_terms.specs.Kept.{cell_of}
use Rattle.tp_terms.specs.Shown.{AreBuilt}
use Rattle.tp_terms.proofs.Places.Kept.{AreBuilt-take}
use Rattle.tp_terms.proofs.Places.Shown.{shows-take}
use Rattle.tp_terms.proofs.cells.Cells.cut_to.Goals as goal

stood : (c : goal.After-truncate) → map cell_of c.self.inside.cells.items ≡ c.args.self.now.items
stood c = ap (λ v. v.items) c.self.view_is

cut : (c : goal.After-truncate) → map cell_of c.truncate.new.self.items ≡ take c.args.len c.args.self.now.items
cut c =
    ap (map cell_of) c.truncate.ensures.items
    ∙ sym (take-map cell_of c.args.len c.self.inside.cells.items)
    ∙ ap (take c.args.len) (stood c)

pub invariant_of-self : goal.invariant_of-self
invariant_of-self c =
    subst AreBuilt (sym (cut c)) (AreBuilt-take c.args.len c.args.self.now.items (subst AreBuilt (stood c) c.self.invariant))

pub returns-clause-items : goal.returns-clause-items
returns-clause-items c = cut c

pub returns-clause-keeps : goal.returns-clause-keeps
returns-clause-keeps c = rw (cut c) (λ names at h. shows-take names _ _ at c.requires h)
