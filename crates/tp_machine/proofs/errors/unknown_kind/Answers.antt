use Rattle.std.proofs.Common.{◌≡◌, [], ◌∷◌, ◌∙◌, pos}
use Rattle.tp_terms.specs.declared.cells.Cell.TheVariants as cell
use Rattle.tp_terms.specs.declared.symbols.TheConstants.{SLASH, EXISTENCE_ERROR, PROCEDURE}
use Rattle.tp_machine.proofs.Gives.Raised.{with_cells, more_cells, length_cells, step_keeps, with_known, unknown_built}
use Rattle.tp_machine.proofs.errors.unknown_kind.Goals as goal

pub returns-clause-built : goal.returns-clause-built
returns-clause-built c names table named within =
    let s0 = c.args.store.now in
    let s1 = c.place.new.self in
    let s2 = c.place-2.new.self in
    let s3 = c.place-3.new.self in
    let s4 = c.place-4.new.self in
    let s5 = c.place-5.new.self in
    let name = c.args.name in
    let args = c.in_ok-args.args in
    let what = c.in_ok-what.what in
    let x1 = cell.Atom name in
    let x2 = cell.Int (pos c.args.count) in
    let x3 = cell.Atom PROCEDURE in
    let x4 = cell.Comp SLASH args 2 in
    let x5 = cell.Comp EXISTENCE_ERROR what 2 in
    let e1 : s1 ≡ with_cells s0 (x1 ∷ []) = c.in_ok-args.ensures.value in
    let e2 = more_cells s0 s1 s2 (x1 ∷ []) x2 e1 (with_known s1 s2 c.number.result x2 c.in_ok-place.ensures.value c.number.ensures) in
    let e3 = more_cells s0 s2 s3 (x1 ∷ x2 ∷ []) x3 e2 c.in_ok-what.ensures.value in
    let e4 = more_cells s0 s3 s4 (x1 ∷ x2 ∷ x3 ∷ []) x4 e3 (with_known s3 s4 c.pair.result x4 c.in_ok-place-2.ensures.value c.pair.ensures) in
    let e5 = more_cells s0 s4 s5 (x1 ∷ x2 ∷ x3 ∷ x4 ∷ []) x5 e4 (with_known s4 s5 c.pair-2.result x5 c.in_ok-kind.ensures.value c.pair-2.ensures) in
    let k2 = step_keeps s0 s1 s2 (x1 ∷ []) x2 e1 c.in_ok-args.ensures.keeps c.in_ok-place.ensures.keeps in
    let k3 = step_keeps s0 s2 s3 (x1 ∷ x2 ∷ []) x3 e2 k2 c.in_ok-what.ensures.keeps in
    let k4 = step_keeps s0 s3 s4 (x1 ∷ x2 ∷ x3 ∷ []) x4 e3 k3 c.in_ok-place-2.ensures.keeps in
    let k5 = step_keeps s0 s4 s5 (x1 ∷ x2 ∷ x3 ∷ x4 ∷ []) x5 e4 k4 c.in_ok-kind.ensures.keeps in
    unknown_built names table s0 s5 k5 c.in_ok-kind.ensures.store named args what c.in_ok-kind.kind name c.args.count
    c.in_ok-args.ensures.place (c.in_ok-what.ensures.place ∙ length_cells s0 s2 (x1 ∷ x2 ∷ []) e2) (c.in_ok-kind.ensures.place ∙ length_cells s0 s4 (x1 ∷ x2 ∷ x3 ∷ x4 ∷ []) e4) within e5
