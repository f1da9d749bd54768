use Rattle.std.proofs.Common.{arith}
use Rattle.tp_engine.proofs.Calls.{on_err}
use Rattle.tp_engine.proofs.Finds.Turns.{went_back, none_left}
use Rattle.tp_machine.proofs.Grows.SamePrograms.{same_trans}
use Rattle.tp_engine.proofs.turns.go_back.Goals as goal

pub resume-requires-clause-few : goal.resume-requires-clause-few
resume-requires-clause-few c =
    let lt = c.if-rewind.ensures.machine.1 in
    let few = c.requires.stamp in
    omega arith

pub returns-in_ok-resume-clause-went : goal.returns-in_ok-resume-clause-went
returns-in_ok-resume-clause-went c = went_back c.args.machine.now c.rewind.new.self c.resume.new.self c.if-rewind.ensures c.in_ok-resume.ensures.resumed

pub returns-in_err-resume-clause-same : goal.returns-in_err-resume-clause-same
returns-in_err-resume-clause-same c = on_err c.from_residual.result (same_trans c.args.machine.now c.rewind.new.self c.resume.new.self c.if-rewind.ensures.same c.in_err-resume.ensures.same)

pub returns-else-rewind-clause-went : goal.returns-else-rewind-clause-went
returns-else-rewind-clause-went c = none_left c.args.machine.now c.rewind.new.self c.if-rewind.ensures
