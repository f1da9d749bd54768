use Rattle.std.proofs.Common.{◌≡◌, [], ◌∷◌, ◌∙◌}
use Rattle.tp_terms.specs.declared.cells.Cell.TheVariants as cell
use Rattle.tp_machine.proofs.Gives.Raised.{with_cells, more_cells, length_cells, step_keeps, with_known, word_built}
use Rattle.tp_machine.proofs.errors.word_kind.Goals as goal

pub returns-clause-built : goal.returns-clause-built
returns-clause-built c names table named known within =
    let s0 = c.args.store.now in
    let s1 = c.place.new.self in
    let s2 = c.place-2.new.self in
    let what = c.in_ok-what.what in
    let x1 = cell.Atom c.args.word in
    let x2 = cell.Comp c.args.error what 1 in
    let e1 : s1 ≡ with_cells s0 (x1 ∷ []) = c.in_ok-what.ensures.value in
    let e2 = more_cells s0 s1 s2 (x1 ∷ []) x2 e1 (with_known s1 s2 c.single.result x2 c.in_ok-kind.ensures.value c.single.ensures) in
    let k2 = step_keeps s0 s1 s2 (x1 ∷ []) x2 e1 c.in_ok-what.ensures.keeps c.in_ok-kind.ensures.keeps in
    let l1 = length_cells s0 s1 (x1 ∷ []) e1 in
    word_built names table s0 s2 k2 c.in_ok-kind.ensures.store named c.args.error c.args.word what c.in_ok-kind.kind known within c.in_ok-what.ensures.place (c.in_ok-kind.ensures.place ∙ l1) e2
