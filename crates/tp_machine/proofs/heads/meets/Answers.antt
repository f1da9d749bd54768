use Rattle.std.proofs.Common.{ap, sym, subst, ◌∙◌, is_some}
use Rattle.tp_terms.specs.Shown.{shows}
use Rattle.tp_meaning.specs.Clauses.{renamed}
use Rattle.tp_meaning.specs.Subst.{mgu}
use Rattle.tp_store.specs.Contents.{Contents, CanGoBack, cut_to_mark, subst_of}
use Rattle.tp_machine.specs.Program.{head_term}
use Rattle.tp_machine.proofs.Meets.HeadsMet.{claimed_back, claimed_can, claimed_names}
use Rattle.tp_machine.proofs.heads.meets.Goals as goal

pub back_to-requires : goal.back_to-requires
back_to-requires c =
    subst (λ (s : Contents). CanGoBack s c.mark-mark.result) (sym c.in_ok-found.ensures.unchanged)
    (claimed_can c.args.store.now c.claim.new.self c.args.clause.vars c.in_ok-base.ensures.value c.mark-mark.result c.mark-mark.ensures.store c.mark-mark.ensures.cells c.mark-mark.ensures.vars)

pub returns-clause-same : goal.returns-clause-same
returns-clause-same c =
    c.back_to.ensures.value
    ∙ ap (λ (s : Contents). cut_to_mark s c.mark-mark.result) c.in_ok-found.ensures.unchanged
    ∙ claimed_back c.args.store.now c.claim.new.self c.args.clause.vars c.in_ok-base.ensures.value c.mark-mark.result c.mark-mark.ensures.store c.mark-mark.ensures.cells c.mark-mark.ensures.vars

pub returns-clause-met : goal.returns-clause-met
returns-clause-met c names h named =
    let old = c.args.store.now in
    let t = c.args.clause in
    let goal = c.args.goal.at in
    let head = head_term names c.args.cells.now.items t in
    let vars = c.in_ok-base.ensures.value in
    c.in_ok-found.ensures.found names (claimed_names names old c.claim.new.self t.vars vars h) named
    ∙ ap (λ (s : Contents). is_some (mgu (subst_of names s) (shows names s.cells goal) (renamed c.in_ok-base.base head))) vars
    ∙ ap (λ b. is_some (mgu (subst_of names old) (shows names old.cells goal) (renamed b head))) c.in_ok-base.ensures.first
