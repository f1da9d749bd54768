use Rattle.std.proofs.Common.{◌<◌, length, sym, subst, arith, SFits, w64, rules}
use Rattle.std.proofs.lemmas.Int.{to_z-of_z}
use Rattle.tp_store.specs.Contents.{seen}
use Rattle.tp_machine.specs.declared.errors.Domain.TheVariants.{StartTime}
use Rattle.tp_machine.specs.Times.{IsTime}
use Rattle.tp_machine.proofs.Gives.Times.{grew_program, grew_rests, on_err}
use Rattle.tp_machine.proofs.Step.Making.{new_there, start_given}
use Rattle.tp_machine.proofs.machine.Machine.start_time.Goals as goal

pub argument-place-requires : goal.argument-place-requires
argument-place-requires c = new_there c.args.self.now c.args._task c.args.call c.requires.name.calls 2 (omega arith)

pub time_at-requires-clause-place : goal.time_at-requires-clause-place
time_at-requires-clause-place c =
    subst (λ k. k < length c.args.self.now.state.store.cells) (sym c.argument-place.ensures) (new_there c.args.self.now c.args._task c.args.call c.requires.name.calls 2 (omega arith))

pub returns-clause-rests : goal.returns-clause-rests
returns-clause-rests c = grew_rests c.args.self.now c.time_at.new.self c.requires.machine c.time_at.ensures.grew

pub returns-clause-start : goal.returns-clause-start
returns-clause-start c =
    let m = c.args.self.now in
    let fits : SFits w64 m.state.clock = search rules in
    start_given c.args.self.now c.time_at.new.self c.requires.machine c.time_at.ensures.grew c.args._task c.args.call c.args._name
    c.argument-place.result c.in_ok-given.given c.requires.name c.argument-place.ensures
    (subst (λ z. IsTime c.time_at.new.self (seen m.atoms m.state.store c.argument-place.result.at) StartTime z c.in_ok-given.given) (to_z-of_z w64 m.state.clock fits) c.in_ok-given.ensures.time)

pub returns-in_err-given-clause-program : goal.returns-in_err-given-clause-program
returns-in_err-given-clause-program c = on_err _ (grew_program c.args.self.now c.time_at.new.self c.requires.machine c.time_at.ensures.grew) c.from_residual.result
