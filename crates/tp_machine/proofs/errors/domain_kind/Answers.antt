use Rattle.std.proofs.Common.{◌≡◌, length, sym, subst, ap, ◌∙◌, rules, arith}
use Rattle.tp_terms.specs.declared.cells.Cell.TheVariants as cell
use Rattle.tp_terms.specs.Term.{Int}
use Rattle.tp_terms.specs.Shown.{IsNamed, name_at, shown_from}
use Rattle.tp_machine.specs.Built.{Built}
use Rattle.tp_machine.specs.Causes.{kind_with, wrong_domain}
use Rattle.tp_machine.proofs.Gives.Raised.{is_wrong_domain, name_within}
use Rattle.tp_machine.proofs.errors.domain_kind.Goals as goal

pub returns-clause-built : goal.returns-clause-built
returns-clause-built c names table named =
    let s0 = c.args.store.now in
    let at = c.in_ok-kind.kind.at in
    let is : c.integer.result ≡ cell.Int c.args.value = search rules in
    let name = c.domain_name.ensures in
    subst (Built names s0 c.culprit_kind.new.store at) (is_wrong_domain names table (name_at names c.domain_name.result.at) (Int c.args.value) ∙ ap (λ f. wrong_domain f (Int c.args.value)) (name.name names table))
    (subst (λ x. Built names s0 c.culprit_kind.new.store at (kind_with (name_at names 81) (name_at names c.domain_name.result.at) (shown_from names s0.cells x))) is
    (c.in_ok-kind.ensures.built names table named (subst (IsNamed (length names)) (sym is) tt) (name_within names table 81 (omega arith)) (name.within names table)))
