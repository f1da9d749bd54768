use Rattle.std.proofs.Common.{◌≡◌, ◌+◌, ◌<◌, true, Ok, length, ap, sym, subst, ◌∙◌}
use Rattle.tp_control.specs.declared.choices.Alt.TheVariants.{Clause}
use Rattle.tp_clauses.proofs.Clauses.Rising.{place-within}
use Rattle.tp_machine.specs.declared.machine.Machine.{Machine}
use Rattle.tp_machine.proofs.Step.Back.{calls_back, hits_back, hits_kept, resumes_clause}
use Rattle.tp_machine.proofs.Trying.Runs.{hit-within, hit-placed, kept-hits, kept-placed}
use Rattle.tp_machine.proofs.machine.Machine.resume_clauses.Goals as goal

pub clause_at-id-requires : goal.clause_at-id-requires
clause_at-id-requires c =
    let m = c.args.self.now in
    let t = c.in-Some.task in
    let call = c.in-Some.call in
    hit-within m t call c.args.place (hits_back m c.args.place c.requires t call c.in-Some.ensures)

pub keep_clauses-requires-clause-tries : goal.keep_clauses-requires-clause-tries
keep_clauses-requires-clause-tries c =
    let m = c.args.self.now in
    let t = c.in-Some.task in
    let call = c.in-Some.call in
    let calls = calls_back m c.args.place c.requires t call c.in-Some.ensures in
    record {
      call = call;
      calls = calls;
      from = c.args.place + 1;
      rest = c.candidates_behind-behind.ensures t c.args.place (record { calls = calls; there = c.clause_at-id.ensures });
    }

pub enter-requires-clause-meets : goal.enter-requires-clause-meets
enter-requires-clause-meets c =
    let m = c.args.self.now in
    let t = c.in-Some.task in
    let call = c.in-Some.call in
    let calls = calls_back m c.args.place c.requires t call c.in-Some.ensures in
    let rest = c.candidates_behind-behind.ensures t c.args.place (record { calls = calls; there = c.clause_at-id.ensures }) in
    let kept = c.in_ok-keep_clauses.ensures.done call (c.args.place + 1) calls rest in
    (hits_kept m c.keep_clauses.new.self (Clause (c.args.place + 1)) kept t call c.args.place (hits_back m c.args.place c.requires t call c.in-Some.ensures)).calls.meets

pub enter-requires-clause-clause : goal.enter-requires-clause-clause
enter-requires-clause-clause c =
    let m = c.args.self.now in
    let call = c.in-Some.call in
    let id = c.clause_at-id.result in
    subst (λ (x : Machine). id.at < length x.base.now.clauses) (sym c.in_ok-keep_clauses.ensures.same)
    (place-within call.name call.count m.base.now c.args.place id c.clause_at-id.ensures)

pub returns-clause-done : goal.returns-clause-done
returns-clause-done c =
    let m = c.args.self.now in
    let t = c.in-Some.task in
    let call = c.in-Some.call in
    let place = c.args.place in
    let id = c.clause_at-id.result in
    let mid = c.keep_clauses.new.self in
    let calls = calls_back m place c.requires t call c.in-Some.ensures in
    let hits = hits_back m place c.requires t call c.in-Some.ensures in
    let rest = c.candidates_behind-behind.ensures t place (record { calls = calls; there = c.clause_at-id.ensures }) in
    let kept = c.in_ok-keep_clauses.ensures.done call (place + 1) calls rest in
    let hit : c.in_ok-enter.field-0 ≡ true = c.in_ok-enter.ensures.met ∙ kept-hits m mid (Clause (place + 1)) kept t.goal id ∙ hit-placed m t call place hits id c.clause_at-id.ensures in
    resumes_clause m mid c.enter.new.self place c.requires kept
    (c.enter.ensures.done (c.in_ok-enter.was ∙ ap Ok hit) call place (kept-placed m mid (Clause (place + 1)) kept t call place id hits c.clause_at-id.ensures))
