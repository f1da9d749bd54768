use Rattle.std.proofs.Common.{◌≡◌, pos, [], ◌∷◌, length, Some, slice_get, ap, subst, sym, ◌∙◌, arith}
use Rattle.std.specs.Prelude.{◌+ℤ◌}
use Rattle.tp_terms.specs.declared.cells.Cell.TheVariants as cell
use Rattle.tp_terms.specs.Shown.{shows, shown_from}
use Rattle.tp_terms.proofs.Places.Shown.{AreNamed-cell}
use Rattle.tp_machine.proofs.Gives.Raised.{before-longer, with_cells, more_cells, length_cells, step_keeps, with_known}
use Rattle.tp_machine.proofs.Gives.Next.{next_built}
use Rattle.tp_machine.proofs.numbers.next_goal.Goals as goal

pub returns : goal.returns
returns c names table named within =
    let s0 = c.args.store.now in
    let s1 = c.place.new.self in
    let s2 = c.place-2.new.self in
    let s3 = c.place-3.new.self in
    let s4 = c.place-4.new.self in
    let x = c.get-cell.result in
    let first = c.in_ok-first.first in
    let x1 = cell.Int (c.args.bounds.low +ℤ pos 1) in
    let x2 = cell.Int c.args.bounds.high in
    let x4 = cell.Comp c.args.call.name first 3 in
    let there = subst (λ cs. slice_get cs c.args.variable.at ≡ Some x) c.cells.ensures.cells c.get-cell.ensures.value in
    let shown = subst (λ cs. shows names cs c.args.variable.at ≡ shown_from names cs x) c.cells.ensures.cells (c.get-cell.ensures.shown names) in
    let e1 : s1 ≡ with_cells s0 (x1 ∷ []) = with_known s0 s1 c.next_cell.result x1 c.in_ok-first.ensures.value c.next_cell.ensures in
    let e2 = more_cells s0 s1 s2 (x1 ∷ []) x2 e1 (with_known s1 s2 c.last_cell.result x2 c.in_ok-place.ensures.value c.last_cell.ensures) in
    let e3 = more_cells s0 s2 s3 (x1 ∷ x2 ∷ []) x e2 c.in_ok-place-2.ensures.value in
    let e4 = more_cells s0 s3 s4 (x1 ∷ x2 ∷ x ∷ []) x4 e3 c.in_ok-goal.ensures.value in
    let k2 = step_keeps s0 s1 s2 (x1 ∷ []) x2 e1 c.in_ok-first.ensures.keeps c.in_ok-place.ensures.keeps in
    let k3 = step_keeps s0 s2 s3 (x1 ∷ x2 ∷ []) x e2 k2 c.in_ok-place-2.ensures.keeps in
    let k4 = step_keeps s0 s3 s4 (x1 ∷ x2 ∷ x ∷ []) x4 e3 k3 c.in_ok-goal.ensures.keeps in
    next_built names table s0 s4 k4 c.in_ok-goal.ensures.store named c.args.call c.args.bounds x first c.in_ok-goal.goal within
    (before-longer c.args.variable.at (length s0.cells) x (omega (arith, c.requires.there)) c.get-cell.ensures.before)
    (AreNamed-cell (length names) s0.cells c.args.variable.at x named there)
    (sym shown ∙ ap (shows names s0.cells) c.requires.third) c.in_ok-first.ensures.place (c.in_ok-goal.ensures.place ∙ length_cells s0 s3 (x1 ∷ x2 ∷ x ∷ []) e3) e4
