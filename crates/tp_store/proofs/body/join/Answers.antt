use Rattle.std.proofs.Common.{List, Ok, refl, ◌∷◌, length, reverse, sym, subst}
use Rattle.tp_terms.specs.declared.cells.Ref.{Ref}
use Rattle.tp_store.specs.declared.body.Job.TheVariants.{Join}
use Rattle.tp_store.specs.Bodies.{AreJobs, Goes}
use Rattle.tp_store.specs.Chain.{contents_of}
use Rattle.tp_store.specs.Work.{AreIn}
use Rattle.tp_store.proofs.Copies.Rows.{newest_first}
use Rattle.tp_store.proofs.Bodies.Converted.{joined_on, ok_value, pairs_same}
use Rattle.tp_store.proofs.body.join.Goals as goal

pub returns-clause-step : goal.returns-clause-step
returns-clause-step c = λ jobs can.
    let old = contents_of c.args.chains.now in
    let new = contents_of c.rejoined.new.chains in
    let bodies = c.two_newest-bodies.result in
    let left = reverse c.two_newest-bodies.new.made.items in
    let place = c.in_ok-place.place in
    let join = Join c.args.at c.args.name c.args.goals.0 c.args.goals.1 in
    let before = c.two_newest-bodies.ensures in
    let after = newest_first c.push.new.self.items c.two_newest-bodies.new.made.items place c.in_ok-push.ensures.items in
    let e = c.in_ok-place.ensures in
    subst (Goes old (join ∷ jobs) (reverse c.args.made.now.items) new jobs) (sym after)
    (subst (λ (ms : List Ref). Goes old (join ∷ jobs) ms new jobs (place ∷ left)) (sym before)
    (joined_on old new c.requires.chains.store e.adds c.args.at c.args.name c.args.goals.0 c.args.goals.1 jobs bodies.0 bodies.1 left
    (subst (λ (ms : List Ref). AreJobs old (join ∷ jobs) (length ms)) before can) (subst (AreIn old.cells) before c.requires.within) place e.place e.shown e.named
    (λ x y. let q = e.own (pairs_same bodies c.args.goals x y) in (q.0, ok_value (Ok place) place c.args.at refl q.1))))
