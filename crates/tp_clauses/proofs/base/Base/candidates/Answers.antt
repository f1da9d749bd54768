use Rattle.std.proofs.Common.{sym, subst, ◌∙◌}
use Rattle.tp_clauses.specs.Candidates.{HasLists}
use Rattle.tp_clauses.specs.Contents.{Contents, IsBase}
use Rattle.tp_clauses.specs.declared.first.FirstArg.TheVariants.{Any}
use Rattle.tp_clauses.proofs.Lists.Chosen.{chosen_all, chosen_own, chosen_some, key_with}
use Rattle.tp_clauses.proofs.Lists.Keys.{first_test}
use Rattle.tp_clauses.proofs.Loading.Whole.{predicate_at}
use Rattle.tp_clauses.proofs.Matching.Tried.{candidates_give}
use Rattle.tp_clauses.proofs.base.Base.candidates.Goals as goal

pub returns-then-eq-clause-listed : goal.returns-then-eq-clause-listed
returns-then-eq-clause-listed c = c.in_ok-all.ensures.listed ∙ chosen_all c.args.self.now c.args.name c.args.arity c.args.first (sym (first_test c.args.first Any) ∙ sym c.eq.ensures ∙ c.if-eq.true)

pub returns-in-Some-clause-listed : goal.returns-in-Some-clause-listed
returns-in-Some-clause-listed c =
    chosen_own c.args.self.now c.self.inside.candidates (subst (λ (b : Contents). HasLists b c.self.inside.candidates) c.self.view_is c.self.invariant.1)
    (record { name = c.args.name; arity = c.args.arity }) c.args.first (sym (first_test c.args.first Any) ∙ sym c.eq.ensures ∙ c.if-eq.false) c.in-Some.list.now (sym c.in-Some.ensures)

pub returns-in-Some-clause-some : goal.returns-in-Some-clause-some
returns-in-Some-clause-some c =
    chosen_some c.args.self.now c.self.inside.candidates (subst (λ (b : Contents). HasLists b c.self.inside.candidates) c.self.view_is c.self.invariant.1)
    (record { name = c.args.name; arity = c.args.arity }) c.args.first (sym (first_test c.args.first Any) ∙ sym c.eq.ensures ∙ c.if-eq.false) c.in-Some.list.now (sym c.in-Some.ensures)

pub returns-in-Some-clause-worlds : goal.returns-in-Some-clause-worlds
returns-in-Some-clause-worlds c names d n l =
    let base = subst IsBase c.self.view_is c.self.invariant.0.base in
    candidates_give names d c.args.self.now base n c.args.name c.args.arity c.args.first c.in-Some.list.now
    (chosen_own c.args.self.now c.self.inside.candidates (subst (λ (b : Contents). HasLists b c.self.inside.candidates) c.self.view_is c.self.invariant.1)
    (record { name = c.args.name; arity = c.args.arity }) c.args.first (sym (first_test c.args.first Any) ∙ sym c.eq.ensures ∙ c.if-eq.false) c.in-Some.list.now (sym c.in-Some.ensures))
    (predicate_at names c.args.self.now c.args.name c.args.arity base d n l)

pub without_list-requires-clause-own : goal.without_list-requires-clause-own
without_list-requires-clause-own c =
    let lists = subst (λ (b : Contents). HasLists b c.self.inside.candidates) c.self.view_is c.self.invariant.1 in
    sym (lists.kept (key_with (record { name = c.args.name; arity = c.args.arity }) c.args.first)) ∙ sym c.in_default.ensures

pub returns-clause-worlds : goal.returns-clause-worlds
returns-clause-worlds c names d n l =
    let base = c.in_ok-all-2.ensures.base in
    candidates_give names d c.args.self.now base n c.args.name c.args.arity c.args.first c.without_list.result.now c.without_list.ensures (predicate_at names c.args.self.now c.args.name c.args.arity base d n l)
