use Rattle.std.proofs.Common.{subst, sym}
use Rattle.std.proofs.lemmas.Result.{IfErr-weaker}
use Rattle.tp_engine.specs.Answers.{answer_in}
use Rattle.tp_engine.specs.Told.{IsSound, Snapshot}
use Rattle.tp_engine.proofs.Calls.{machine_sound}
use Rattle.tp_engine.proofs.turns.hand_over.Goals as goal

pub answer-requires : goal.answer-requires
answer-requires g c = subst IsSound (sym c.of.ensures) (machine_sound c.args.machine.now c.args.tally.found c.args.tally.steps c.requires)

pub returns-in-Success-clause-left : goal.returns-in-Success-clause-left
returns-in-Success-clause-left g c =
    IfErr-weaker c.answer.result _ _ (λ fault left. (c.in-Success.is, subst (λ (s : Snapshot). g.A.Answers.leaves c.args.answers.now (answer_in s) fault c.answer.new.self) c.of.ensures left)) c.answer.ensures.left
