use Rattle.std.proofs.Common.{◌≡◌, ◌<◌, length, [], ◌∷◌, ◌∙◌, arith}
use Rattle.tp_terms.specs.declared.cells.Cell.TheVariants as cell
use Rattle.tp_terms.specs.declared.symbols.TheConstants.{ERROR}
use Rattle.tp_terms.proofs.Places.Shown.{shows-append}
use Rattle.tp_machine.proofs.Gives.Raised.{with_cells, more_cells, length_cells, step_keeps, with_known, error_built}
use Rattle.tp_machine.proofs.errors.error.Goals as goal

pub returns : goal.returns
returns c names table named within =
    let s0 = c.args.store.now in
    let s1 = c.place.new.self in
    let s2 = c.place-2.new.self in
    let kind = c.args.kind in
    let x1 = cell.Atom c.args.process in
    let x2 = cell.Comp ERROR kind 2 in
    let e1 : s1 ≡ with_cells s0 (x1 ∷ []) = c.in_ok-place.ensures.value in
    let e2 = more_cells s0 s1 s2 (x1 ∷ []) x2 e1 (with_known s1 s2 c.pair.result x2 c.in_ok-place-2.ensures.value c.pair.ensures) in
    let k2 = step_keeps s0 s1 s2 (x1 ∷ []) x2 e1 c.in_ok-place.ensures.keeps c.in_ok-place-2.ensures.keeps in
    let l1 = length_cells s0 s1 (x1 ∷ []) e1 in
    let last : kind.at < length s0.cells = omega (arith, c.requires) in
    error_built names table s0 s2 k2 c.in_ok-place-2.ensures.store named kind c.in_ok-place-2.place c.args.process c.requires (c.in_ok-place-2.ensures.place ∙ l1) within e2 (λ ds. shows-append names s0.cells ds kind.at last)
