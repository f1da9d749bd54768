use Rattle.tp_engine.proofs.Calls.{kept_program, uncounted}
use Rattle.tp_engine.proofs.engine.Engine.resume.Goals as goal

pub returns-in_err-resume-clause-rest : goal.returns-in_err-resume-clause-rest
returns-in_err-resume-clause-rest c =
    let e = c.self.inside in
    uncounted c.args.self.now e.machine c.resume.new.self e.phase _ e.number e.steps c.self.view_is (kept_program e.machine e.number e.steps e.phase c.self.invariant c.in_default.not-Broken) c.in_err-resume.ensures.same

pub returns-clause-rest : goal.returns-clause-rest
returns-clause-rest c =
    let e = c.self.inside in
    uncounted c.args.self.now e.machine c.resume.new.self e.phase _ e.number e.steps c.self.view_is (kept_program e.machine e.number e.steps e.phase c.self.invariant c.in_default.not-Broken) c.in_ok-resume.ensures.resumed.same
