use Rattle.std.proofs.Common.{Option, sym, subst, arith}
use Rattle.std.proofs.lemmas.Result.{err_from_is_err_and}
use Rattle.tp_engine.specs.Run.{Turns, at_end, at_start}
use Rattle.tp_engine.specs.declared.run.Ended.{Ended}
use Rattle.tp_engine.specs.declared.run.How.{How}
use Rattle.tp_engine.specs.Ended.{Finds, Reaches, outcome_of}
use Rattle.tp_engine.proofs.Finds.Runs.{begins, goes_on, steps_are, ends, ends_took, reaches, spends, spends_took, spends_reaches, cut}
use Rattle.tp_engine.proofs.run.search.Goals as goal

pub turns-init : goal.turns-init
turns-init g c = record {
  run = begins g.A.Answers.takes c.args.machine.now c.args.wanted c.args.answers.now c.requires.machine c.requires.choices c.requires.stamp c.requires.wanted;
  within = omega arith;
  falls = omega arith;
}

pub turns-preserved : goal.turns-preserved
turns-preserved g c =
    let turns : Option How → Type 0 = Turns g.A.Answers.takes c.args.wanted c.turns.machine c.turns.tally c.turns.answers c.turn.new.machine c.turn.new.tally c.turn.new.answers in
    let t = subst turns c.in_default.is c.in_ok-how.ensures.turns in
    let lt = c.turns-test.true in
    let f = c.in_ok-how.ensures.never_falls in
    let f' = c.turns.invariant.falls in
    record {
      run = goes_on g.A.Answers.takes c.args.machine.now c.args.wanted c.args.answers.now c.turns.machine c.turns.tally c.turns.answers c.turns.invariant.run c.turn.new.machine c.turn.new.tally c.turn.new.answers t;
      within = omega (arith, steps_are g.A.Answers.takes c.args.machine.now c.args.wanted c.args.answers.now c.turns.machine c.turns.tally c.turns.answers c.turns.invariant.run c.turn.new.machine c.turn.new.tally c.turn.new.answers _ t);
      falls = omega arith;
    }

pub returns-in-Some-clause-found : goal.returns-in-Some-clause-found
returns-in-Some-clause-found g c =
    let turns : Option How → Type 0 = Turns g.A.Answers.takes c.args.wanted c.turns.machine c.turns.tally c.turns.answers c.turn.new.machine c.turn.new.tally c.turn.new.answers in
    let t = subst turns c.in-Some.is c.in_ok-how.ensures.turns in
    subst (λ (e : Ended). Finds (outcome_of (at_start c.args.machine.now) c.args.budget c.args.wanted) (at_end c.turn.new.machine e) e) (sym c.summed.ensures)
    (ends g.A.Answers.takes c.args.machine.now c.args.wanted c.args.answers.now c.turns.machine c.turns.tally c.turns.answers c.turns.invariant.run c.turn.new.machine c.turn.new.tally c.turn.new.answers c.in-Some.how t c.args.budget c.turns-test.true)

pub returns-in-Some-clause-reached : goal.returns-in-Some-clause-reached
returns-in-Some-clause-reached g c =
    let turns : Option How → Type 0 = Turns g.A.Answers.takes c.args.wanted c.turns.machine c.turns.tally c.turns.answers c.turn.new.machine c.turn.new.tally c.turn.new.answers in
    let t = subst turns c.in-Some.is c.in_ok-how.ensures.turns in
    subst (λ (e : Ended). Reaches (at_start c.args.machine.now) c.args.wanted (at_end c.turn.new.machine e) e) (sym c.summed.ensures)
    (reaches g.A.Answers.takes c.args.machine.now c.args.wanted c.args.answers.now c.turns.machine c.turns.tally c.turns.answers c.turns.invariant.run c.turn.new.machine c.turn.new.tally c.turn.new.answers c.in-Some.how t)

pub returns-in-Some-clause-took : goal.returns-in-Some-clause-took
returns-in-Some-clause-took g c =
    let turns : Option How → Type 0 = Turns g.A.Answers.takes c.args.wanted c.turns.machine c.turns.tally c.turns.answers c.turn.new.machine c.turn.new.tally c.turn.new.answers in
    let t = subst turns c.in-Some.is c.in_ok-how.ensures.turns in
    ends_took g.A.Answers.takes c.args.machine.now c.args.wanted c.args.answers.now c.turns.machine c.turns.tally c.turns.answers c.turns.invariant.run c.turn.new.machine c.turn.new.tally c.turn.new.answers c.in-Some.how t c.args.budget c.turns-test.true

pub returns-clause-found : goal.returns-clause-found
returns-clause-found g c =
    subst (λ (e : Ended). Finds (outcome_of (at_start c.args.machine.now) c.args.budget c.args.wanted) (at_end c.turns.machine e) e) (sym c.summed-2.ensures)
    (spends g.A.Answers.takes c.args.machine.now c.args.wanted c.args.answers.now c.turns.machine c.turns.tally c.turns.answers c.turns.invariant.run c.args.budget (omega (arith, c.turns-test.false, c.turns.invariant.within)))

pub returns-clause-reached : goal.returns-clause-reached
returns-clause-reached g c =
    subst (λ (e : Ended). Reaches (at_start c.args.machine.now) c.args.wanted (at_end c.turns.machine e) e) (sym c.summed-2.ensures)
    (spends_reaches g.A.Answers.takes c.args.machine.now c.args.wanted c.args.answers.now c.turns.machine c.turns.tally c.turns.answers c.turns.invariant.run)

pub returns-clause-took : goal.returns-clause-took
returns-clause-took g c =
    spends_took g.A.Answers.takes c.args.machine.now c.args.wanted c.args.answers.now c.turns.machine c.turns.tally c.turns.answers c.turns.invariant.run c.args.budget (omega (arith, c.turns-test.false, c.turns.invariant.within))

pub returns-in_err-how-clause-cut : goal.returns-in_err-how-clause-cut
returns-in_err-how-clause-cut g c =
    let p = err_from_is_err_and c.from_residual.result c.from_residual.ensures.1 in
    rw (p.1, p.2) (cut g.A.Answers.takes c.args.machine.now c.args.wanted c.args.answers.now c.turns.machine c.turns.tally c.turns.answers c.turns.invariant.run c.args.budget c.turns-test.true g.A.Answers.leaves c.in_err-how.field-0.0 c.turn.new.machine c.turn.new.answers c.in_err-how.ensures.cut)
