use Rattle.std.proofs.Common.{length, List, IfOk, subst, sym, arith}
use Rattle.tp_terms.specs.declared.cells.Ref.{Ref}
use Rattle.tp_terms.specs.Names.{IsTable}
use Rattle.tp_terms.specs.Shown.{AreNamed, shows}
use Rattle.tp_terms.specs.Term.{Name}
use Rattle.tp_machine.specs.Built.{Built}
use Rattle.tp_machine.specs.Causes.{CauseStands, kind_term}
use Rattle.tp_machine.specs.declared.errors.Cause.{Cause}
use Rattle.tp_machine.proofs.Gives.Raised.{if_ok, name_within, no_process, not_atom, not_callable, not_integer, not_list}
use Rattle.tp_machine.proofs.errors.kind_of.Goals as goal

pub returns-in-NotCallable-clause-built : goal.returns-in-NotCallable-clause-built
returns-in-NotCallable-clause-built c =
    let old = c.args.store.now in
    let new = c.term_kind.new.store in
    subst (λ (w : Cause). IfOk c.term_kind.result (λ (kind : Ref). (names : List Name) → IsTable names → AreNamed (length names) old.cells → CauseStands names w → Built names old new kind.at (kind_term names old.cells w))) (sym c.in-NotCallable.is)
    (if_ok _ _ (λ kind h names table named stands. subst (Built names old new kind.at) (not_callable names table (shows names old.cells c.in-NotCallable.goal.at)) (h names table named (name_within names table 80 (omega arith)) (name_within names table 28 (omega arith)))) c.term_kind.result c.term_kind.ensures.built)

pub returns-in-NotInteger-clause-built : goal.returns-in-NotInteger-clause-built
returns-in-NotInteger-clause-built c =
    let old = c.args.store.now in
    let new = c.term_kind-in-NotInteger.new.store in
    subst (λ (w : Cause). IfOk c.term_kind-in-NotInteger.result (λ (kind : Ref). (names : List Name) → IsTable names → AreNamed (length names) old.cells → CauseStands names w → Built names old new kind.at (kind_term names old.cells w))) (sym c.in-NotInteger.is)
    (if_ok _ _ (λ kind h names table named stands. subst (Built names old new kind.at) (not_integer names table (shows names old.cells c.in-NotInteger.term.at)) (h names table named (name_within names table 80 (omega arith)) (name_within names table 25 (omega arith)))) c.term_kind-in-NotInteger.result c.term_kind-in-NotInteger.ensures.built)

pub returns-in-NotAtom-clause-built : goal.returns-in-NotAtom-clause-built
returns-in-NotAtom-clause-built c =
    let old = c.args.store.now in
    let new = c.term_kind-in-NotAtom.new.store in
    subst (λ (w : Cause). IfOk c.term_kind-in-NotAtom.result (λ (kind : Ref). (names : List Name) → IsTable names → AreNamed (length names) old.cells → CauseStands names w → Built names old new kind.at (kind_term names old.cells w))) (sym c.in-NotAtom.is)
    (if_ok _ _ (λ kind h names table named stands. subst (Built names old new kind.at) (not_atom names table (shows names old.cells c.in-NotAtom.term.at)) (h names table named (name_within names table 80 (omega arith)) (name_within names table 24 (omega arith)))) c.term_kind-in-NotAtom.result c.term_kind-in-NotAtom.ensures.built)

pub returns-in-NotList-clause-built : goal.returns-in-NotList-clause-built
returns-in-NotList-clause-built c =
    let old = c.args.store.now in
    let new = c.term_kind-in-NotList.new.store in
    subst (λ (w : Cause). IfOk c.term_kind-in-NotList.result (λ (kind : Ref). (names : List Name) → IsTable names → AreNamed (length names) old.cells → CauseStands names w → Built names old new kind.at (kind_term names old.cells w))) (sym c.in-NotList.is)
    (if_ok _ _ (λ kind h names table named stands. subst (Built names old new kind.at) (not_list names table (shows names old.cells c.in-NotList.term.at)) (h names table named (name_within names table 80 (omega arith)) (name_within names table 87 (omega arith)))) c.term_kind-in-NotList.result c.term_kind-in-NotList.ensures.built)

pub returns-in-NoProcess-clause-built : goal.returns-in-NoProcess-clause-built
returns-in-NoProcess-clause-built c =
    let old = c.args.store.now in
    let new = c.term_kind-in-NoProcess.new.store in
    subst (λ (w : Cause). IfOk c.term_kind-in-NoProcess.result (λ (kind : Ref). (names : List Name) → IsTable names → AreNamed (length names) old.cells → CauseStands names w → Built names old new kind.at (kind_term names old.cells w))) (sym c.in-NoProcess.is)
    (if_ok _ _ (λ kind h names table named stands. subst (Built names old new kind.at) (no_process names table (shows names old.cells c.in-NoProcess.name.at)) (h names table named (name_within names table 82 (omega arith)) (name_within names table 89 (omega arith)))) c.term_kind-in-NoProcess.result c.term_kind-in-NoProcess.ensures.built)
