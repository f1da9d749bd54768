use Rattle.std.proofs.Common.{◌≡◌, [], ◌∷◌, length, sym, subst, ◌∙◌, arith}
use Rattle.tp_terms.specs.declared.cells.Cell.TheVariants as cell
use Rattle.tp_store.specs.Contents.{Contents, IsNumbered}
use Rattle.tp_machine.proofs.Gives.Raised.{with_cells, more_cells, length_cells, step_keeps, with_known, before-longer, culprit_built}
use Rattle.tp_machine.proofs.errors.culprit_kind.Goals as goal

pub place-requires-2-clause-before : goal.place-requires-2-clause-before
place-requires-2-clause-before c =
    let l1 = length_cells c.args.store.now c.place.new.self (cell.Atom c.args.wanted ∷ []) c.in_ok-what.ensures.value in
    before-longer (length c.args.store.now.cells) (length c.place.new.self.cells) c.args.culprit (omega (arith, l1)) c.requires.before

pub place-requires-2-clause-numbered : goal.place-requires-2-clause-numbered
place-requires-2-clause-numbered c = subst (λ (s : Contents). IsNumbered s.vars c.args.culprit) (sym c.in_ok-what.ensures.value) c.requires.numbered

pub returns-clause-built : goal.returns-clause-built
returns-clause-built c names table named atoms known within =
    let s0 = c.args.store.now in
    let s1 = c.place.new.self in
    let s2 = c.place-2.new.self in
    let s3 = c.place-3.new.self in
    let what = c.in_ok-what.what in
    let x1 = cell.Atom c.args.wanted in
    let x2 = c.args.culprit in
    let x3 = cell.Comp c.args.error what 2 in
    let e1 : s1 ≡ with_cells s0 (x1 ∷ []) = c.in_ok-what.ensures.value in
    let e2 = more_cells s0 s1 s2 (x1 ∷ []) x2 e1 c.in_ok-place.ensures.value in
    let e3 = more_cells s0 s2 s3 (x1 ∷ x2 ∷ []) x3 e2 (with_known s2 s3 c.pair.result x3 c.in_ok-kind.ensures.value c.pair.ensures) in
    let k1 = c.in_ok-what.ensures.keeps in
    let k2 = step_keeps s0 s1 s2 (x1 ∷ []) x2 e1 k1 c.in_ok-place.ensures.keeps in
    let k3 = step_keeps s0 s2 s3 (x1 ∷ x2 ∷ []) x3 e2 k2 c.in_ok-kind.ensures.keeps in
    let l2 = length_cells s0 s2 (x1 ∷ x2 ∷ []) e2 in
    culprit_built names table s0 s3 k3 c.in_ok-kind.ensures.store named c.args.error c.args.wanted what c.in_ok-kind.kind x2 known within c.requires.before atoms c.in_ok-what.ensures.place (c.in_ok-kind.ensures.place ∙ l2) e3
