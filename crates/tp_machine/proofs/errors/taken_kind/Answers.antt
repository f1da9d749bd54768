use Rattle.std.proofs.Common.{◌≡◌, [], ◌∷◌, length, sym, subst, ◌∙◌, Some, slice_get, arith}
use Rattle.tp_terms.specs.declared.cells.Cell.TheVariants as cell
use Rattle.tp_terms.specs.declared.symbols.TheConstants.{CREATE, PERMISSION_ERROR, PROCESS}
use Rattle.tp_terms.specs.Shown.{shows, shown_from}
use Rattle.tp_terms.proofs.Places.Shown.{AreNamed-cell}
use Rattle.tp_meaning.specs.Checks.{permission_error}
use Rattle.tp_store.specs.Contents.{Contents, IsNumbered}
use Rattle.tp_machine.specs.Built.{Built}
use Rattle.tp_machine.proofs.Gives.Raised.{with_cells, more_cells, length_cells, step_keeps, with_known, before-longer, numbered_cell, taken_built}
use Rattle.tp_machine.proofs.errors.taken_kind.Goals as goal

pub place-requires-3-clause-before : goal.place-requires-3-clause-before
place-requires-3-clause-before c =
    let s0 = c.args.store.now in
    let x1 = cell.Atom CREATE in
    let e1 : c.place.new.self ≡ with_cells s0 (x1 ∷ []) = c.in_ok-act.ensures.value in
    let e2 = more_cells s0 c.place.new.self c.place-2.new.self (x1 ∷ []) (cell.Atom PROCESS) e1 c.in_ok-place.ensures.value in
    let l2 = length_cells s0 c.place-2.new.self (x1 ∷ cell.Atom PROCESS ∷ []) e2 in
    before-longer c.args.name.at (length c.place-2.new.self.cells) c.get-culprit.result (omega (arith, c.requires, l2)) c.get-culprit.ensures.before

pub place-requires-3-clause-numbered : goal.place-requires-3-clause-numbered
place-requires-3-clause-numbered c =
    let s0 = c.args.store.now in
    let x = c.get-culprit.result in
    let there = subst (λ cs. slice_get cs c.args.name.at ≡ Some x) c.cells.ensures.cells c.get-culprit.ensures.value in
    let x1 = cell.Atom CREATE in
    let e1 : c.place.new.self ≡ with_cells s0 (x1 ∷ []) = c.in_ok-act.ensures.value in
    let e2 = more_cells s0 c.place.new.self c.place-2.new.self (x1 ∷ []) (cell.Atom PROCESS) e1 c.in_ok-place.ensures.value in
    subst (λ (s : Contents). IsNumbered s.vars x) (sym e2) (numbered_cell s0 c.args.name.at x c.cells.ensures.store there)

pub returns-clause-built : goal.returns-clause-built
returns-clause-built c names table named =
    let s0 = c.args.store.now in
    let s1 = c.place.new.self in
    let s2 = c.place-2.new.self in
    let s3 = c.place-3.new.self in
    let s4 = c.place-4.new.self in
    let act = c.in_ok-act.act in
    let x = c.get-culprit.result in
    let there = subst (λ cs. slice_get cs c.args.name.at ≡ Some x) c.cells.ensures.cells c.get-culprit.ensures.value in
    let shown = subst (λ cs. shows names cs c.args.name.at ≡ shown_from names cs x) c.cells.ensures.cells (c.get-culprit.ensures.shown names) in
    let x1 = cell.Atom CREATE in
    let x2 = cell.Atom PROCESS in
    let x4 = cell.Comp PERMISSION_ERROR act 3 in
    let e1 : s1 ≡ with_cells s0 (x1 ∷ []) = c.in_ok-act.ensures.value in
    let e2 = more_cells s0 s1 s2 (x1 ∷ []) x2 e1 c.in_ok-place.ensures.value in
    let e3 = more_cells s0 s2 s3 (x1 ∷ x2 ∷ []) x e2 c.in_ok-place-2.ensures.value in
    let e4 = more_cells s0 s3 s4 (x1 ∷ x2 ∷ x ∷ []) x4 e3 (with_known s3 s4 c.triple.result x4 c.in_ok-kind.ensures.value c.triple.ensures) in
    let k1 = c.in_ok-act.ensures.keeps in
    let k2 = step_keeps s0 s1 s2 (x1 ∷ []) x2 e1 k1 c.in_ok-place.ensures.keeps in
    let k3 = step_keeps s0 s2 s3 (x1 ∷ x2 ∷ []) x e2 k2 c.in_ok-place-2.ensures.keeps in
    let k4 = step_keeps s0 s3 s4 (x1 ∷ x2 ∷ x ∷ []) x4 e3 k3 c.in_ok-kind.ensures.keeps in
    let l3 = length_cells s0 s3 (x1 ∷ x2 ∷ x ∷ []) e3 in
    let before = before-longer c.args.name.at (length s0.cells) x (omega (arith, c.requires)) c.get-culprit.ensures.before in
    subst (λ t. Built names s0 s4 c.in_ok-kind.kind.at (permission_error "create" "process" t)) (sym shown)
    (taken_built names table s0 s4 k4 c.in_ok-kind.ensures.store named act c.in_ok-kind.kind x before (AreNamed-cell (length names) s0.cells c.args.name.at x named there) c.in_ok-act.ensures.place (c.in_ok-kind.ensures.place ∙ l3) e4)
