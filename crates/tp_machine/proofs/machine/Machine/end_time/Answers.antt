use Rattle.std.proofs.Common.{◌<◌, length, sym, subst, ◌∙◌, arith, SFits, w64, rules}
use Rattle.std.proofs.lemmas.Int.{to_z-of_z}
use Rattle.tp_store.specs.Contents.{seen}
use Rattle.tp_machine.specs.declared.errors.Domain.TheVariants.{EndTime}
use Rattle.tp_machine.specs.Times.{IsTime}
use Rattle.tp_machine.specs.declared.making.Ending.{Ending}
use Rattle.tp_machine.specs.Making.{IsEnd}
use Rattle.tp_machine.proofs.Gives.Times.{grew_program, grew_rests, on_err}
use Rattle.tp_machine.proofs.Step.Making.{end_given, end_inf, new_there}
use Rattle.tp_machine.proofs.machine.Machine.end_time.Goals as goal

pub argument-place-requires : goal.argument-place-requires
argument-place-requires c = new_there c.args.self.now c.args._task c.args.call c.requires.start.named.calls 3 (omega arith)

pub is_inf-requires-clause-place : goal.is_inf-requires-clause-place
is_inf-requires-clause-place c =
    subst (λ k. k < length c.args.self.now.state.store.cells) (sym c.argument-place.ensures) (new_there c.args.self.now c.args._task c.args.call c.requires.start.named.calls 3 (omega arith))

pub returns-then-is_inf-clause-end : goal.returns-then-is_inf-clause-end
returns-then-is_inf-clause-end c =
    end_inf c.args.self.now c.args._task c.args.call c.args._name c.args.start c.argument-place.result c.requires.start c.argument-place.ensures (sym c.is_inf.ensures ∙ c.if-is_inf.true)

pub time_at-requires-clause-place : goal.time_at-requires-clause-place
time_at-requires-clause-place c =
    subst (λ k. k < length c.args.self.now.state.store.cells) (sym c.argument-place.ensures) (new_there c.args.self.now c.args._task c.args.call c.requires.start.named.calls 3 (omega arith))

pub returns-clause-rests : goal.returns-clause-rests
returns-clause-rests c = grew_rests c.args.self.now c.time_at.new.self c.requires.machine c.time_at.ensures.grew

pub returns-clause-end : goal.returns-clause-end
returns-clause-end c =
    let new = c.time_at.new.self in
    let fits : SFits w64 c.args.start = search rules in
    subst (λ (r : Ending). IsEnd new c.args._task c.args.call c.args._name c.args.start r) (sym c.end_given.ensures)
    (end_given c.args.self.now new c.requires.machine c.time_at.ensures.grew c.args._task c.args.call c.args._name
    c.argument-place.result c.args.start c.in_ok-given.given c.requires.start c.argument-place.ensures (sym c.is_inf.ensures ∙ c.if-is_inf.false)
    (subst (λ z. IsTime new (seen c.args.self.now.atoms c.args.self.now.state.store c.argument-place.result.at) EndTime z c.in_ok-given.given) (to_z-of_z w64 c.args.start fits) c.in_ok-given.ensures.time))

pub returns-in_err-given-clause-program : goal.returns-in_err-given-clause-program
returns-in_err-given-clause-program c = on_err _ (grew_program c.args.self.now c.time_at.new.self c.requires.machine c.time_at.ensures.grew) c.from_residual.result
