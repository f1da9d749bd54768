use Rattle.std.proofs.Common.{◌≡◌, length, subst, Some, slice_get, arith}
use Rattle.tp_terms.specs.Shown.{shows, shown_from}
use Rattle.tp_machine.proofs.Grows.Again.{again_built}
use Rattle.tp_machine.proofs.Gives.Raised.{before-longer, numbered_cell}
use Rattle.tp_machine.proofs.errors.placed_again.Goals as goal

pub place-requires-clause-before : goal.place-requires-clause-before
place-requires-clause-before c = before-longer c.args.kind.at (length c.args.store.now.cells) c.get-cell.result (omega (arith, c.requires)) c.get-cell.ensures.before

pub place-requires-clause-numbered : goal.place-requires-clause-numbered
place-requires-clause-numbered c =
    let s = c.args.store.now in
    numbered_cell s c.args.kind.at c.get-cell.result c.cells.ensures.store (subst (λ cs. slice_get cs c.args.kind.at ≡ Some c.get-cell.result) c.cells.ensures.cells c.get-cell.ensures.value)

pub returns-clause-built : goal.returns-clause-built
returns-clause-built c names table named =
    let s = c.args.store.now in
    let x = c.get-cell.result in
    let there = subst (λ cs. slice_get cs c.args.kind.at ≡ Some x) c.cells.ensures.cells c.get-cell.ensures.value in
    let shown = subst (λ cs. shows names cs c.args.kind.at ≡ shown_from names cs x) c.cells.ensures.cells (c.get-cell.ensures.shown names) in
    again_built names s c.place.new.self x c.args.kind.at c.in_ok-last.last.at c.in_ok-last.ensures.value c.in_ok-last.ensures.keeps c.in_ok-last.ensures.store named there shown c.in_ok-last.ensures.place
