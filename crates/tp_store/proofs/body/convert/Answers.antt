use Rattle.tp_terms.specs.declared.cells.Ref.{Ref}
use Rattle.std.proofs.Common.{Some, ◌≡◌, ◌<◌, ◌++◌, ◌∷◌, [], List, length, reverse, sym, ap, subst, ◌∙◌, arith}
use Rattle.std.specs.Prelude.{Bool, vec_len}
use Rattle.std.specs.Option.{option_to_list}
use Rattle.tp_store.specs.declared.body.Job.{Job}
use Rattle.tp_store.specs.declared.body.Job.TheVariants.{Convert, Join}
use Rattle.tp_store.specs.Bodies.{Goes, Looked, jobs_size}
use Rattle.tp_store.specs.Chain.{contents_of}
use Rattle.tp_store.specs.Contents.{seen}
use Rattle.tp_store.proofs.Copies.Rows.{newest_first, is_some_not, zero_unless, nothing_left}
use Rattle.tp_store.proofs.Bodies.Converted.{goes_on, no_body, done, join_smaller, first_made, none_own, own_at}
use Rattle.tp_store.proofs.body.convert.Goals as goal

pub returns-then-not-branch-clause-body : goal.returns-then-not-branch-clause-body
returns-then-not-branch-clause-body c = λ names t h.
    let old = contents_of c.args.chains.now in
    let now = contents_of c.jobs.chains in
    let at = c.in-Convert.at in
    let rest = reverse c.pop.new.self.items in
    let made = reverse c.jobs.made.items in
    let top : c.jobs.jobs.items ≡ c.pop.new.self.items ++ Convert at ∷ [] = c.pop.ensures.items ∙ ap (λ o. c.pop.new.self.items ++ option_to_list o) c.in-Some.is ∙ ap (λ t. c.pop.new.self.items ++ t ∷ []) c.in-Convert.is in
    let g = subst (λ (js : List Job). Goes old (Convert c.args.goal ∷ []) [] now js made) (newest_first c.jobs.jobs.items c.pop.new.self.items (Convert at) top) c.jobs.invariant.goes in
    sym (no_body old now c.args.goal at rest made g
    (subst (λ (b : Bool). Looked b now at rest made (contents_of c.look_at.new.chains) (reverse c.look_at.new.jobs.items) (reverse c.look_at.new.made.items)) c.if-not-branch.true c.in_ok-look_at-in-Convert.ensures.step)
    names t h)

pub returns-then-not-branch-clause-own : goal.returns-then-not-branch-clause-own
returns-then-not-branch-clause-own c =
    let old = contents_of c.args.chains.now in
    none_own old (contents_of c.look_at.new.chains) c.args.goal (λ names t h. sym (returns-then-not-branch-clause-body c names t h))

pub jobs-preserved-else-not-branch : goal.jobs-preserved-else-not-branch
jobs-preserved-else-not-branch c =
    let old = contents_of c.args.chains.now in
    let now = contents_of c.jobs.chains in
    let new = contents_of c.look_at.new.chains in
    let at = c.in-Convert.at in
    let rest = reverse c.pop.new.self.items in
    let made = reverse c.jobs.made.items in
    let top : c.jobs.jobs.items ≡ c.pop.new.self.items ++ Convert at ∷ [] = c.pop.ensures.items ∙ ap (λ o. c.pop.new.self.items ++ option_to_list o) c.in-Some.is ∙ ap (λ t. c.pop.new.self.items ++ t ∷ []) c.in-Convert.is in
    let g = subst (λ (js : List Job). Goes old (Convert c.args.goal ∷ []) [] now js made) (newest_first c.jobs.jobs.items c.pop.new.self.items (Convert at) top) c.jobs.invariant.goes in
    let step = subst (λ (b : Bool). Looked b now at rest made new (reverse c.look_at.new.jobs.items) (reverse c.look_at.new.made.items)) c.if-not-branch.false c.in_ok-look_at-in-Convert.ensures.step in
    record {
      chains = c.in_ok-look_at-in-Convert.ensures.chains;
      goes = goes_on old now new (Convert c.args.goal ∷ []) (Convert at ∷ rest) (reverse c.look_at.new.jobs.items) [] made (reverse c.look_at.new.made.items) g step.0;
    }

pub jobs-smaller : goal.jobs-smaller
jobs-smaller c =
    let old = contents_of c.args.chains.now in
    let now = contents_of c.jobs.chains in
    let new = contents_of c.join.new.chains in
    let job = Join c.in-Join.at c.in-Join.name c.in-Join.left c.in-Join.right in
    let rest = reverse c.pop.new.self.items in
    let made = reverse c.jobs.made.items in
    let top : c.jobs.jobs.items ≡ c.pop.new.self.items ++ job ∷ [] = c.pop.ensures.items ∙ ap (λ o. c.pop.new.self.items ++ option_to_list o) c.in-Some.is ∙ ap (λ t. c.pop.new.self.items ++ t ∷ []) c.in-Join.is in
    let newest = newest_first c.jobs.jobs.items c.pop.new.self.items job top in
    let g = subst (λ (js : List Job). Goes old (Convert c.args.goal ∷ []) [] now js made) newest c.jobs.invariant.goes in
    subst (λ (js : List Job). jobs_size new rest < jobs_size now js) (sym newest)
    (join_smaller now new c.jobs.invariant.chains.store c.in_ok-join-in-Join.ensures.adds c.in-Join.at c.in-Join.name c.in-Join.left c.in-Join.right rest (length made) g.can)

pub jobs-preserved : goal.jobs-preserved
jobs-preserved c =
    let old = contents_of c.args.chains.now in
    let now = contents_of c.jobs.chains in
    let new = contents_of c.join.new.chains in
    let job = Join c.in-Join.at c.in-Join.name c.in-Join.left c.in-Join.right in
    let rest = reverse c.pop.new.self.items in
    let made = reverse c.jobs.made.items in
    let top : c.jobs.jobs.items ≡ c.pop.new.self.items ++ job ∷ [] = c.pop.ensures.items ∙ ap (λ o. c.pop.new.self.items ++ option_to_list o) c.in-Some.is ∙ ap (λ t. c.pop.new.self.items ++ t ∷ []) c.in-Join.is in
    let g = subst (λ (js : List Job). Goes old (Convert c.args.goal ∷ []) [] now js made) (newest_first c.jobs.jobs.items c.pop.new.self.items job top) c.jobs.invariant.goes in
    record {
      chains = c.in_ok-join-in-Join.ensures.chains;
      goes = goes_on old now new (Convert c.args.goal ∷ []) (job ∷ rest) rest [] made (reverse c.join.new.made.items) g (c.in_ok-join-in-Join.ensures.step rest g.can);
    }

pub returns-clause-body : goal.returns-clause-body
returns-clause-body c = λ names t h.
    let old = contents_of c.args.chains.now in
    let now = contents_of c.jobs.chains in
    let made = reverse c.jobs.made.items in
    let none : length c.jobs.jobs.items ≡ 0 = let z = zero_unless (vec_len c.jobs.jobs) (λ lt. is_some_not c.pop.result (c.pop.ensures.variant.1 lt) c.in_default.not-Some) in omega (arith, z) in
    let g = subst (λ (js : List Job). Goes old (Convert c.args.goal ∷ []) [] now js made) (nothing_left c.jobs.jobs.items none) c.jobs.invariant.goes in
    let d = done old now c.args.goal made g in
    ap (λ (r : Ref). Some (seen names now r.at)) (first_made c.jobs.made.items d.place c.index.result.now d.only c.index.ensures) ∙ d.found names t h

pub returns-clause-own : goal.returns-clause-own
returns-clause-own c =
    let old = contents_of c.args.chains.now in
    let now = contents_of c.jobs.chains in
    let made = reverse c.jobs.made.items in
    let none : length c.jobs.jobs.items ≡ 0 = let z = zero_unless (vec_len c.jobs.jobs) (λ lt. is_some_not c.pop.result (c.pop.ensures.variant.1 lt) c.in_default.not-Some) in omega (arith, z) in
    let g = subst (λ (js : List Job). Goes old (Convert c.args.goal ∷ []) [] now js made) (nothing_left c.jobs.jobs.items none) c.jobs.invariant.goes in
    let d = done old now c.args.goal made g in
    own_at old now c.args.goal d.place c.index.result.now (first_made c.jobs.made.items d.place c.index.result.now d.only c.index.ensures) d.own

pub returns-clause-named : goal.returns-clause-named
returns-clause-named c =
    let old = contents_of c.args.chains.now in
    let now = contents_of c.jobs.chains in
    let made = reverse c.jobs.made.items in
    let none : length c.jobs.jobs.items ≡ 0 = let z = zero_unless (vec_len c.jobs.jobs) (λ lt. is_some_not c.pop.result (c.pop.ensures.variant.1 lt) c.in_default.not-Some) in omega (arith, z) in
    let g = subst (λ (js : List Job). Goes old (Convert c.args.goal ∷ []) [] now js made) (nothing_left c.jobs.jobs.items none) c.jobs.invariant.goes in
    (done old now c.args.goal made g).named
