use Rattle.std.proofs.Common.{◌≡◌, ap, map, sym, Some, slice_get, length, ◌∙◌}
use Rattle.std.proofs.lemmas.List.{length-map}
use Rattle.std.proofs.lemmas.Option.{slice_get_read}
use Rattle.tp_terms.specs.Kept.{cell_of}
use Rattle.tp_terms.proofs.Places.Kept.{kept-at}
use Rattle.tp_terms.proofs.Places.Shown.{shows-cell}
use Rattle.tp_terms.proofs.cells.Cells.get.Goals as goal

pub returns-clause-shown : goal.returns-clause-shown
returns-clause-shown c =
    let stood : map cell_of c.self.inside.cells.items ≡ c.args.self.now.items = ap (λ v. v.items) c.self.view_is in
    let many : length c.args.self.now.items ≡ length c.self.inside.cells.items = ap length (sym stood) ∙ length-map c.self.inside.cells.items cell_of in
    let kept : slice_get c.self.inside.cells.items c.args.at.at ≡ Some c.index.result.now = slice_get_read _ _ _ _ many c.requires c.index.ensures in
    let inside : slice_get (map cell_of c.self.inside.cells.items) c.args.at.at ≡ Some c.given.result = kept-at c.self.inside.cells.items c.args.at.at c.index.result.now kept ∙ ap Some (sym c.given.ensures) in
    let at : slice_get c.args.self.now.items c.args.at.at ≡ Some c.given.result = ap (λ x. slice_get x c.args.at.at) (sym stood) ∙ inside in
    λ names. shows-cell names _ _ _ at (c.self.invariant c.args.at.at c.given.result inside)
