use Rattle.std.proofs.Common.{◌≡◌, length, sym, subst, rules, arith}
use Rattle.tp_terms.specs.declared.cells.Cell.TheVariants as cell
use Rattle.tp_terms.specs.Term.{Int}
use Rattle.tp_terms.specs.Shown.{IsNamed, name_at, shown_from}
use Rattle.tp_terms.specs.declared.symbols.TheConstants.{CALLABLE}
use Rattle.tp_machine.specs.Built.{Built}
use Rattle.tp_machine.specs.Causes.{kind_with}
use Rattle.tp_machine.proofs.Gives.Raised.{name_within, not_callable}
use Rattle.tp_machine.proofs.errors.number_kind.Goals as goal

pub returns-clause-built : goal.returns-clause-built
returns-clause-built c names table named =
    let s0 = c.args.store.now in
    let at = c.in_ok-kind.kind.at in
    let is : c.integer.result ≡ cell.Int c.args.value = search rules in
    subst (Built names s0 c.culprit_kind.new.store at) (not_callable names table (Int c.args.value))
    (subst (λ x. Built names s0 c.culprit_kind.new.store at (kind_with (name_at names 80) (name_at names CALLABLE.at) (shown_from names s0.cells x))) is
    (c.in_ok-kind.ensures.built names table named (subst (IsNamed (length names)) (sym is) tt) (name_within names table 80 (omega arith)) (name_within names table 28 (omega arith))))
