use Rattle.std.proofs.Common.{◌<◌, Ok, IfSome, length, slice_index_or, ap, sym, subst, ◌∙◌}
use Rattle.std.proofs.lemmas.Option.{slice_get-get_or}
use Rattle.tp_machine.specs.declared.machine.Machine.{Machine}
use Rattle.tp_machine.proofs.Trying.Found.{still-clauses}
use Rattle.tp_machine.proofs.Trying.Runs.{none-goes, other-hit, other-meets, other-runs, other-tries, still-others}
use Rattle.tp_machine.proofs.machine.Machine.run_behind.Goals as goal

pub keep_clauses-requires-clause-tries : goal.keep_clauses-requires-clause-tries
keep_clauses-requires-clause-tries c =
    let r = c.requires.misses in
    let a = r.tries in
    other-tries c.args.self.now c.args.task a.call a.calls c.requires.machine r.first c.args.others.now a.all c.in-Some.next (sym c.requires.found ∙ c.in-Some.is) r.misses

pub enter-requires-clause-meets : goal.enter-requires-clause-meets
enter-requires-clause-meets c =
    let r = c.requires.misses in
    let a = r.tries in
    let others = c.args.others.now in
    let next = c.in-Some.next in
    other-meets c.args.self.now c.args.task a.call a.calls c.requires.machine r.first others a.all next (sym c.requires.found ∙ c.in-Some.is) r.misses
    c.keep_clauses.new.self (λ from tried. c.in_ok-keep_clauses-in-Some.ensures.done a.call from a.calls tried)
    (slice_index_or others next (record { at = 0 })) (slice_get-get_or others next (record { at = 0 }) (subst (λ o. IfSome o (λ k. k < length others)) c.in-Some.is c.requires.within))

pub enter-requires-clause-clause : goal.enter-requires-clause-clause
enter-requires-clause-clause c =
    let m = c.args.self.now in
    let r = c.requires.misses in
    let a = r.tries in
    let others = c.args.others.now in
    let next = c.in-Some.next in
    let id = slice_index_or others next (record { at = 0 }) in
    subst (λ (x : Machine). id.at < length x.base.now.clauses) (sym c.in_ok-keep_clauses-in-Some.ensures.same)
    (still-clauses m c.args.task others (still-others m c.args.task a.call a.calls c.requires.machine r.first others a.all) next id
    (slice_get-get_or others next (record { at = 0 }) (subst (λ o. IfSome o (λ k. k < length others)) c.in-Some.is c.requires.within)))

pub returns-in-None-clause-done : goal.returns-in-None-clause-done
returns-in-None-clause-done c =
    let r = c.requires.misses in
    let a = r.tries in
    none-goes c.args.self.now c.args.task a.call a.calls c.requires.machine r.first c.args.others.now a.all r.misses (sym c.requires.found ∙ c.in-None.is)

pub returns-in_ok-enter-in-Some-clause-done : goal.returns-in_ok-enter-in-Some-clause-done
returns-in_ok-enter-in-Some-clause-done c =
    let m = c.args.self.now in
    let t = c.args.task in
    let r = c.requires.misses in
    let a = r.tries in
    let others = c.args.others.now in
    let next = c.in-Some.next in
    let mid = c.keep_clauses.new.self in
    let id = slice_index_or others next (record { at = 0 }) in
    let here = slice_get-get_or others next (record { at = 0 }) (subst (λ o. IfSome o (λ k. k < length others)) c.in-Some.is c.requires.within) in
    let found = sym c.requires.found ∙ c.in-Some.is in
    let hit = other-hit m t a.call a.calls c.requires.machine r.first others a.all next found r.misses mid (λ from tried. c.in_ok-keep_clauses-in-Some.ensures.done a.call from a.calls tried) id here in
    other-runs m t a.call a.calls c.requires.machine r.first others a.all next found r.misses mid (λ from tried. c.in_ok-keep_clauses-in-Some.ensures.done a.call from a.calls tried) id here c.enter.new.self
    (λ place placed. c.enter.ensures.done (c.in_ok-enter-in-Some.was ∙ ap Ok (c.in_ok-enter-in-Some.ensures.met ∙ hit)) a.call place placed)
