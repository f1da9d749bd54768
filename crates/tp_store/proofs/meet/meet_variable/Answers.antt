use Rattle.std.proofs.Common.{◌∙◌, []}
use Rattle.tp_terms.specs.Term.{Var}
use Rattle.tp_store.specs.Chain.{contents_of}
use Rattle.tp_store.proofs.Standing.Facts.{bound_within}
use Rattle.tp_store.proofs.Substitution.Chained.{table_at}
use Rattle.tp_store.proofs.HeadsMeet.Binding.{both_pairs, bound_meets, solved_meets, end_meets}
use Rattle.tp_store.proofs.meet.meet_variable.Goals as goal

pub solve-requires-clause-right : goal.solve-requires-clause-right
solve-requires-clause-right c =
    let old = contents_of c.args.chains.now in
    (bound_within old c.args.number c.in-Some.place c.requires.chains.store (table_at c.args.chains.now.trail.bound old.pairs c.args.number c.get.result c.requires.chains.table c.get.ensures ∙ c.in-Some.is)).1

pub returns-in-Some-clause-adds : goal.returns-in-Some-clause-adds
returns-in-Some-clause-adds c = both_pairs (contents_of c.args.chains.now) (contents_of c.solve.new.chains) c.solve.ensures.adds

pub returns-in-Some-clause-found : goal.returns-in-Some-clause-found
returns-in-Some-clause-found c =
    let old = contents_of c.args.chains.now in
    bound_meets c.solve.result old (contents_of c.solve.new.chains) c.args.number c.args.goal.at c.in-Some.place c.requires.chains.store
    (table_at c.args.chains.now.trail.bound old.pairs c.args.number c.get.result c.requires.chains.table c.get.ensures ∙ c.in-Some.is)
    (solved_meets c.solve.result old (contents_of c.solve.new.chains) c.args.goal.at c.in-Some.place.at c.solve.ensures.yes c.solve.ensures.no)

pub returns-in-None-clause-found : goal.returns-in-None-clause-found
returns-in-None-clause-found c =
    end_meets c.meet_unbound.result (contents_of c.args.chains.now) (contents_of c.meet_unbound.new.chains) c.end-end.result c.args.goal [] (λ names. Var c.args.number) c.end-end.ensures.end c.end-end.ensures.same c.meet_unbound.ensures.found
