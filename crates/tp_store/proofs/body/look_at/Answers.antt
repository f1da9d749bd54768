use Rattle.std.proofs.Common.{◌+◌, true, List, reverse, sym, subst, ◌∙◌, refl}
use Rattle.tp_terms.specs.declared.cells.Ref.{Ref}
use Rattle.tp_store.specs.declared.body.Job.{Job}
use Rattle.tp_store.specs.Bodies.{Looked}
use Rattle.tp_store.specs.Chain.{contents_of}
use Rattle.tp_store.proofs.Copies.Rows.{newest_first}
use Rattle.tp_store.proofs.Bodies.Converted.{looked_plain, looked_variable, looked_pair}
use Rattle.tp_store.proofs.body.look_at.Goals as goal

pub returns-in_ok-push-in-Variable-clause-step : goal.returns-in_ok-push-in-Variable-clause-step
returns-in_ok-push-in-Variable-clause-step c =
    let old = contents_of c.args.chains.now in
    let new = contents_of c.called.new.chains in
    let jobs = reverse c.args.jobs.now.items in
    let made = reverse c.args.made.now.items in
    let place = c.in_ok-called-in-Variable.field-0 in
    let made_is = newest_first c.push.new.self.items c.args.made.now.items place c.in_ok-push-in-Variable.ensures.items in
    let is = sym c.as_goal.ensures ∙ c.in-Variable.is in
    subst (Looked true old c.args.at jobs made new jobs) (sym made_is)
    (looked_variable old c.requires.chains.store c.args.at jobs made c.requires.can c.requires.within c.end-end.result c.end-end.ensures.end c.end-end.ensures.same is new
    c.in_ok-called-in-Variable.ensures.adds place c.in_ok-called-in-Variable.ensures.place c.in_ok-called-in-Variable.ensures.shown c.in_ok-called-in-Variable.ensures.named)

pub returns-in_ok-push_goals-in-Pair-clause-step : goal.returns-in_ok-push_goals-in-Pair-clause-step
returns-in_ok-push_goals-in-Pair-clause-step c =
    let old = contents_of c.args.chains.now in
    let jobs = reverse c.args.jobs.now.items in
    let made = reverse c.args.made.now.items in
    let first = c.in-Pair.first in
    let second : Ref = record { at = first.at + 1 } in
    let is = sym c.as_goal.ensures ∙ c.in-Pair.is in
    subst (λ (js : List Job). Looked true old c.args.at jobs made old js made) (sym c.in_ok-push_goals-in-Pair.ensures)
    (looked_pair old c.requires.chains.store c.args.at jobs made c.requires.can c.requires.within c.end-end.result c.end-end.ensures.end c.end-end.ensures.same c.in-Pair.name first second is refl)

pub returns-in_ok-push-in-Plain-clause-step : goal.returns-in_ok-push-in-Plain-clause-step
returns-in_ok-push-in-Plain-clause-step c =
    let old = contents_of c.args.chains.now in
    let jobs = reverse c.args.jobs.now.items in
    let made = reverse c.args.made.now.items in
    let made_is = newest_first c.push-in-Plain.new.self.items c.args.made.now.items c.args.at c.in_ok-push-in-Plain.ensures.items in
    subst (Looked true old c.args.at jobs made old jobs) (sym made_is)
    (looked_plain old c.requires.chains.store c.args.at jobs made c.requires.can c.requires.within c.end-end.result c.end-end.ensures.end c.end-end.ensures.same (sym c.as_goal.ensures ∙ c.in-Plain.is))
