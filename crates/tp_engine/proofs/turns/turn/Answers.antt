use Rattle.std.proofs.Common.{refl}
use Rattle.std.proofs.lemmas.Result.{err_from_is_err_and}
use Rattle.tp_engine.proofs.Finds.Turns.{turns, cut_before, cut_at, cut_behind}
use Rattle.tp_engine.proofs.turns.turn.Goals as goal

pub returns-clause-turns : goal.returns-clause-turns
returns-clause-turns g c =
    turns g.A.Answers.takes c.args.wanted c.args.machine.now c.step.new.self c.follow.new.machine c.args.tally.now c.counted.result c.args.answers.now c.hand_over.new.answers c.in_ok-stepped.stepped c.in_ok-how.how
    c.in_ok-stepped.ensures.stepped c.counted.ensures.value c.counted.ensures.fit c.in_ok-hand_over.ensures.took c.in_ok-how.ensures.follows

pub returns-in_err-stepped-clause-cut : goal.returns-in_err-stepped-clause-cut
returns-in_err-stepped-clause-cut g c =
    let p = err_from_is_err_and c.from_residual.result c.from_residual.ensures.1 in
    rw p.1 (cut_before g.A.Answers.takes g.A.Answers.leaves c.args.machine.now c.step.new.self c.step.new.self c.args.tally.now c.args.tally.now c.args.answers.now c.args.answers.now p.0 c.in_err-stepped.ensures.same p.2 refl)

pub returns-in_err-hand_over-clause-cut : goal.returns-in_err-hand_over-clause-cut
returns-in_err-hand_over-clause-cut g c =
    let p = err_from_is_err_and c.from_residual-in_err-hand_over.result c.from_residual-in_err-hand_over.ensures.1 in
    rw (p.1, p.2) (cut_at g.A.Answers.takes g.A.Answers.leaves c.args.machine.now c.step.new.self c.step.new.self c.args.tally.now c.counted.result c.args.answers.now c.hand_over.new.answers c.in_err-hand_over.field-0.0 c.in_ok-stepped.stepped
    c.in_ok-stepped.ensures.stepped c.counted.ensures.value c.in_err-hand_over.ensures.left)

pub returns-in_err-how-clause-cut : goal.returns-in_err-how-clause-cut
returns-in_err-how-clause-cut g c =
    let p = err_from_is_err_and c.from_residual-in_err-how.result c.from_residual-in_err-how.ensures.1 in
    rw p.1 (cut_behind g.A.Answers.takes g.A.Answers.leaves c.args.machine.now c.step.new.self c.follow.new.machine c.args.tally.now c.counted.result c.args.answers.now c.hand_over.new.answers p.0 c.in_ok-stepped.stepped
    c.in_ok-stepped.ensures.stepped c.counted.ensures.value c.in_ok-hand_over.ensures.took c.in_err-how.ensures.same p.2)
