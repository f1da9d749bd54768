use Rattle.std.proofs.Common.{ℕ, ◌<◌, ◌∷◌, Ok, None, length, refl, ap, sym, subst, ◌∙◌}
use Rattle.tp_control.specs.declared.choices.Alt.TheVariants.{Clause}
use Rattle.tp_machine.specs.declared.machine.Machine.{Machine}
use Rattle.tp_machine.specs.declared.task.Call.{Call}
use Rattle.tp_machine.specs.Meets.{Calls}
use Rattle.tp_machine.specs.Goes.{IsKept}
use Rattle.tp_machine.specs.Trying.{AreTried, StillTries}
use Rattle.tp_machine.proofs.Step.Back.{meets_kept}
use Rattle.tp_machine.proofs.Trying.Found.{still-clauses, tried-clauses}
use Rattle.tp_machine.proofs.Trying.Runs.{it-runs, kept-hits, still-others}
use Rattle.tp_machine.proofs.machine.Machine.run_first.Goals as goal

pub next_match-requires-clause-clauses : goal.next_match-requires-clause-clauses
next_match-requires-clause-clauses c =
    let m = c.args.self.now in
    let t = c.args.task in
    let r = c.requires.tries in
    still-clauses m t c.args.others.now (still-others m t r.call r.calls c.requires.machine c.args.id c.args.others.now r.all)

pub keep_found-requires-clause-tries : goal.keep_found-requires-clause-tries
keep_found-requires-clause-tries c =
    let m = c.args.self.now in
    let t = c.args.task in
    let r = c.requires.tries in
    let others = c.args.others.now in
    subst (λ (x : Machine). StillTries x t others) (sym c.in_ok-next.ensures.same)
    (still-others m t r.call r.calls c.requires.machine c.args.id others r.all)

pub enter-requires-clause-meets : goal.enter-requires-clause-meets
enter-requires-clause-meets c =
    let m = c.args.self.now in
    let t = c.args.task in
    let r = c.requires.tries in
    let others = c.args.others.now in
    let mid = c.keep_found.new.self in
    let s = still-others m t r.call r.calls c.requires.machine c.args.id others r.all in
    let kept = subst (λ (x : Machine). (call : Call) (from : ℕ) → Calls x t call None → AreTried x t call from others → IsKept x (Clause from) mid) c.in_ok-next.ensures.same c.in_ok-keep_found.ensures.done in
    meets_kept m mid (Clause s.from) (kept s.call s.from s.calls s.rest) t r.calls.meets

pub enter-requires-clause-clause : goal.enter-requires-clause-clause
enter-requires-clause-clause c =
    let m = c.args.self.now in
    let id = c.args.id in
    let r = c.requires.tries in
    subst (λ (x : Machine). id.at < length x.base.now.clauses) (sym c.in_ok-keep_found.ensures.same)
    (subst (λ (x : Machine). id.at < length x.base.now.clauses) (sym c.in_ok-next.ensures.same)
    (tried-clauses m c.args.task r.call 0 (id ∷ c.args.others.now) r.all 0 id refl))

pub returns-then-branch-clause-done : goal.returns-then-branch-clause-done
returns-then-branch-clause-done c =
    let m = c.args.self.now in
    let t = c.args.task in
    let id = c.args.id in
    let r = c.requires.tries in
    let others = c.args.others.now in
    let mid = c.keep_found.new.self in
    let s = still-others m t r.call r.calls c.requires.machine id others r.all in
    let kept = subst (λ (x : Machine). (call : Call) (from : ℕ) → Calls x t call None → AreTried x t call from others → IsKept x (Clause from) mid) c.in_ok-next.ensures.same c.in_ok-keep_found.ensures.done in
    let hit = sym (kept-hits m mid (Clause s.from) (kept s.call s.from s.calls s.rest) t.goal id) ∙ sym c.in_ok-enter.ensures.met ∙ c.if-branch.true in
    it-runs m t r.call r.calls c.requires.machine id others r.all mid c.enter.new.self hit (λ from tried. kept r.call from r.calls tried)
    (λ place placed. c.enter.ensures.done (c.in_ok-enter.was ∙ ap Ok c.if-branch.true) r.call place placed)
