use Rattle.std.proofs.Common.{◌≡◌, ◌+◌, subst}
use Rattle.tp_meaning.specs.Machine.{stepped}
use Rattle.tp_meaning.specs.Step.{searched}
use Rattle.tp_machine.specs.Machine.{answer_by, state_in}
use Rattle.tp_engine.specs.Told.{Told, state_of}
use Rattle.tp_engine.proofs.Calls.{kept_program, same_told, uncounted, counted, on_err}
use Rattle.tp_engine.proofs.engine.Engine.step.Goals as goal

pub returns-in_err-stepped-clause-same : goal.returns-in_err-stepped-clause-same
returns-in_err-stepped-clause-same c =
    let e = c.self.inside in
    same_told c.args.self.now e.machine c.step.new.self e.phase _ e.number e.steps c.self.view_is (kept_program e.machine e.number e.steps e.phase c.self.invariant c.in_default.not-Broken) c.in_err-stepped.ensures.same e.number e.steps

pub returns-in_err-stepped-clause-uncounted : goal.returns-in_err-stepped-clause-uncounted
returns-in_err-stepped-clause-uncounted c =
    let e = c.self.inside in
    on_err c.from_residual.result (uncounted c.args.self.now e.machine c.step.new.self e.phase _ e.number e.steps c.self.view_is (kept_program e.machine e.number e.steps e.phase c.self.invariant c.in_default.not-Broken) c.in_err-stepped.ensures.same)

pub returns-clause-step : goal.returns-clause-step
returns-clause-step c =
    let new = c.step.new.self in
    subst (λ (t : Told). (answer_by new c.in_ok-stepped.stepped, state_in new) ≡ stepped (searched t.base) (state_of t)) c.self.view_is c.in_ok-stepped.ensures.stepped.step

pub returns-clause-counts : goal.returns-clause-counts
returns-clause-counts c =
    let e = c.self.inside in
    counted c.args.self.now e.machine c.step.new.self e.phase _ e.number e.steps c.self.view_is (kept_program e.machine e.number e.steps e.phase c.self.invariant c.in_default.not-Broken) c.in_ok-stepped.ensures.stepped.same c.in_ok-stepped.stepped c.count_answer-self-inside.result c.count_answer-self-inside.ensures

pub returns-clause-same : goal.returns-clause-same
returns-clause-same c =
    let e = c.self.inside in
    same_told c.args.self.now e.machine c.step.new.self e.phase _ e.number e.steps c.self.view_is (kept_program e.machine e.number e.steps e.phase c.self.invariant c.in_default.not-Broken) c.in_ok-stepped.ensures.stepped.same c.count_answer-self-inside.result (e.steps + 1)
