use Rattle.std.proofs.Common.{◌≡◌, length, sym, subst, Some, slice_get, arith}
use Rattle.tp_terms.specs.Shown.{name_at, shows, shown_from}
use Rattle.tp_terms.proofs.Places.Shown.{AreNamed-cell}
use Rattle.tp_machine.specs.Built.{Built}
use Rattle.tp_machine.specs.Causes.{kind_with}
use Rattle.tp_machine.proofs.Gives.Raised.{before-longer, numbered_cell}
use Rattle.tp_machine.proofs.errors.term_kind.Goals as goal

pub culprit_kind-requires-clause-before : goal.culprit_kind-requires-clause-before
culprit_kind-requires-clause-before c = before-longer c.args.term.at (length c.args.store.now.cells) c.get-culprit.result (omega (arith, c.requires)) c.get-culprit.ensures.before

pub culprit_kind-requires-clause-numbered : goal.culprit_kind-requires-clause-numbered
culprit_kind-requires-clause-numbered c =
    let s0 = c.args.store.now in
    numbered_cell s0 c.args.term.at c.get-culprit.result c.cells.ensures.store (subst (λ cs. slice_get cs c.args.term.at ≡ Some c.get-culprit.result) c.cells.ensures.cells c.get-culprit.ensures.value)

pub returns-clause-built : goal.returns-clause-built
returns-clause-built c names table named known within =
    let s0 = c.args.store.now in
    let x = c.get-culprit.result in
    let there = subst (λ cs. slice_get cs c.args.term.at ≡ Some x) c.cells.ensures.cells c.get-culprit.ensures.value in
    let shown = subst (λ cs. shows names cs c.args.term.at ≡ shown_from names cs x) c.cells.ensures.cells (c.get-culprit.ensures.shown names) in
    subst (λ t. Built names s0 c.culprit_kind.new.store c.in_ok-kind.kind.at (kind_with (name_at names c.args.error.at) (name_at names c.args.wanted.at) t)) (sym shown)
    (c.in_ok-kind.ensures.built names table named (AreNamed-cell (length names) s0.cells c.args.term.at x named there) known within)
