use Rattle.std.proofs.Common.{◌≡◌, ap, ◌∙◌, sym, subst, arith}
use Rattle.tp_meaning.specs.declared.goals.ProcessGoal.TheVariants.{New}
use Rattle.tp_terms.specs.declared.cells.Cell.TheVariants as cell
use Rattle.tp_terms.specs.declared.symbols.TheConstants.{CALL}
use Rattle.tp_terms.specs.Shown.{StandsBefore}
use Rattle.tp_store.specs.Contents.{IsNumbered, with_cell}
use Rattle.std.proofs.Common.{length}
use Rattle.tp_machine.proofs.Gives.Times.{grew_rests}
use Rattle.tp_machine.proofs.Step.Acting.{first_there}
use Rattle.tp_machine.proofs.Step.Making.{call_grew, goal_placed}
use Rattle.tp_machine.proofs.machine.Machine.place_call.Goals as goal

pub place-requires-clause-before : goal.place-requires-clause-before
place-requires-clause-before c =
    let lt = first_there c.args.self.now c.args._task c.args.call New c.requires.end.start.named.calls in
    subst (StandsBefore (length c.args.self.now.state.store.cells)) (sym c.calling.ensures) (omega arith, omega (arith, lt))

pub place-requires-clause-numbered : goal.place-requires-clause-numbered
place-requires-clause-numbered c = subst (IsNumbered c.args.self.now.state.store.vars) (sym c.calling.ensures) tt

pub returns-clause-rests : goal.returns-clause-rests
returns-clause-rests c =
    let m = c.args.self.now in
    let e : c.place.new.self ≡ with_cell m.state.store (cell.Comp CALL c.args.call.first 1) = c.in_ok-goal.ensures.value ∙ ap (with_cell m.state.store) c.calling.ensures in
    grew_rests m (record m { state = record m.state { store = c.place.new.self } }) c.requires.machine
    (call_grew m c.args._task c.args.call c.args._wanted c.requires.machine c.requires.end c.place.new.self e c.in_ok-goal.ensures.keeps c.place.ensures.store)

pub returns-clause-goal : goal.returns-clause-goal
returns-clause-goal c =
    let m = c.args.self.now in
    let e : c.place.new.self ≡ with_cell m.state.store (cell.Comp CALL c.args.call.first 1) = c.in_ok-goal.ensures.value ∙ ap (with_cell m.state.store) c.calling.ensures in
    goal_placed m c.args._task c.args.call c.args._wanted c.requires.machine c.requires.end c.place.new.self e c.in_ok-goal.ensures.keeps c.place.ensures.store c.in_ok-goal.goal c.in_ok-goal.ensures.place
