use Rattle.std.proofs.Common.{sym, ap, ◌∙◌, chars}
use Rattle.tp_terms.specs.Names.{names_of, with_name}
use Rattle.tp_terms.proofs.Naming.Tables.{found-place, found-names, stored-place, inserted-names, not_found}
use Rattle.tp_terms.proofs.atoms.find_or_add.Goals as goal

pub returns-in-Some-clause-place : goal.returns-in-Some-clause-place
returns-in-Some-clause-place c = found-place c.args.names.now.keys c.args.name.now c.in-Some.at (sym c.in-Some.ensures.index)

pub returns-in-Some-clause-names : goal.returns-in-Some-clause-names
returns-in-Some-clause-names c = found-names c.args.names.now.keys c.args.name.now c.in-Some.at (sym c.in-Some.ensures.index)

pub returns-clause-place : goal.returns-clause-place
returns-clause-place c =
    let stored = c.in_ok-at.ensures.stored in
    stored-place c.insert_full.new.self.keys c.in_ok-owned.owned stored.0 c.args.name.now c.in_ok-at.at stored.1 stored.2 c.in_ok-owned.ensures.ok

pub returns-clause-names : goal.returns-clause-names
returns-clause-names c =
    ap names_of c.in_ok-at.ensures.keys ∙ inserted-names c.args.names.now.keys c.in_ok-owned.owned
    ∙ ap (λ text. with_name (names_of c.args.names.now.keys) (chars text)) c.in_ok-owned.ensures.ok

pub returns-in_err-owned-clause-known : goal.returns-in_err-owned-clause-known
returns-in_err-owned-clause-known c at e = absurd (not_found _ _ c.utf8.name (sym c.in_default.ensures.found) at e)

pub returns-in_err-at-clause-known : goal.returns-in_err-at-clause-known
returns-in_err-at-clause-known c at e = absurd (not_found _ _ c.utf8.name (sym c.in_default.ensures.found) at e)

pub returns-then-len-ge-MOST_NAMES-clause-known : goal.returns-then-len-ge-MOST_NAMES-clause-known
returns-then-len-ge-MOST_NAMES-clause-known c at e = absurd (not_found _ _ c.utf8.name (sym c.in_default.ensures.found) at e)
