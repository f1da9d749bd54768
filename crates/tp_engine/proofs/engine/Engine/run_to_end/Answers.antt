use Rattle.std.proofs.Common.{subst, sym}
use Rattle.tp_engine.specs.Run.{at_end}
use Rattle.tp_engine.specs.Answers.{Took, IsCutShort}
use Rattle.tp_engine.specs.Phases.{Keeps}
use Rattle.tp_engine.specs.Ended.{Finds, Reaches, answers_of, outcome_of}
use Rattle.tp_engine.specs.Told.{Told}
use Rattle.tp_engine.proofs.Calls.{kept_program, fault_keeps, same_told, uncounted}
use Rattle.tp_engine.proofs.engine.Engine.run_to_end.Goals as goal

pub returns-in-Ok-clause-found : goal.returns-in-Ok-clause-found
returns-in-Ok-clause-found g c =
    let e = c.in-Ok.ended in
    subst (λ (t : Told). Finds (outcome_of t c.args.budget c.args.wanted) (at_end c.search.new.machine e) e) c.self.view_is c.in-Ok.ensures.found

pub returns-in-Ok-clause-reached : goal.returns-in-Ok-clause-reached
returns-in-Ok-clause-reached g c =
    let e = c.in-Ok.ended in
    subst (λ (t : Told). Reaches t c.args.wanted (at_end c.search.new.machine e) e) c.self.view_is c.in-Ok.ensures.reached

pub returns-in-Ok-clause-took : goal.returns-in-Ok-clause-took
returns-in-Ok-clause-took g c =
    subst (λ (t : Told). Took g.A.Answers.takes c.args.answers.now (answers_of t c.args.budget c.args.wanted) c.search.new.answers) c.self.view_is c.in-Ok.ensures.took

pub returns-in-Ok-clause-same : goal.returns-in-Ok-clause-same
returns-in-Ok-clause-same g c =
    let e = c.self.inside in
    same_told c.args.self.now e.machine c.search.new.machine e.phase _ e.number e.steps c.self.view_is (kept_program e.machine e.number e.steps e.phase c.self.invariant c.in_default.not-Broken) c.in-Ok.ensures.same c.in-Ok.ended.found c.in-Ok.ended.steps

pub returns-in-Err-clause-cut : goal.returns-in-Err-clause-cut
returns-in-Err-clause-cut g c =
    subst (λ (t : Told). IsCutShort g.A.Answers.takes g.A.Answers.leaves (answers_of t c.args.budget c.args.wanted) c.in-Err.fault c.args.answers.now c.search.new.answers) c.self.view_is c.in-Err.ensures.cut

pub returns-in-Err-clause-same : goal.returns-in-Err-clause-same
returns-in-Err-clause-same g c =
    let e = c.self.inside in
    same_told c.args.self.now e.machine c.search.new.machine e.phase _ e.number e.steps c.self.view_is (kept_program e.machine e.number e.steps e.phase c.self.invariant c.in_default.not-Broken) c.in-Err.ensures.same e.number e.steps

pub returns-in-Err-clause-uncounted : goal.returns-in-Err-clause-uncounted
returns-in-Err-clause-uncounted g c =
    let e = c.self.inside in
    uncounted c.args.self.now e.machine c.search.new.machine e.phase _ e.number e.steps c.self.view_is (kept_program e.machine e.number e.steps e.phase c.self.invariant c.in_default.not-Broken) c.in-Err.ensures.same

pub invariant_of-self-in-Err : goal.invariant_of-self-in-Err
invariant_of-self-in-Err g c =
    subst (λ phase. Keeps phase c.search.new.machine c.self.inside.number c.self.inside.steps) (sym c.phase-self-inside.ensures)
    (fault_keeps c.in-Err.fault c.search.new.machine c.self.inside.number c.self.inside.steps c.in-Err.ensures.refused)
