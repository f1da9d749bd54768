use Rattle.tp_terms.specs.declared.cells.Cell.TheVariants as cell
use Rattle.tp_state.specs.State.{held_of}
use Rattle.tp_state.proofs.GoingBack.Bindings.{store-follows}
use Rattle.tp_machine.proofs.Gives.Raised.{with_known}
use Rattle.tp_machine.proofs.Gives.Next.{number_equals, number_grows}
use Rattle.tp_machine.proofs.numbers.equal_first.Goals as goal

pub returns-clause-equals : goal.returns-clause-equals
returns-clause-equals c names h =
    let old = c.args.state.now.store in
    let placed = with_known old c.place.new.self c.first_cell.result (cell.Int c.args.bounds.low) c.in_ok-number.ensures.value c.first_cell.ensures in
    number_equals old c.place.new.self c.unify.new.self c.args.bounds.low placed c.in_ok-number.ensures.keeps _ _ c.unify.ensures.logged
    names c.args.place c.in_ok-number.number c.in_ok-_equal._equal h c.requires c.in_ok-number.ensures.place c.in_ok-_equal.ensures.found

pub returns-clause-follows : goal.returns-clause-follows
returns-clause-follows c =
    let old = c.args.state.now.store in
    let placed = with_known old c.place.new.self c.first_cell.result (cell.Int c.args.bounds.low) c.in_ok-number.ensures.value c.first_cell.ensures in
    store-follows (held_of c.args.state.now) c.unify.new.self _
    (number_grows old c.place.new.self c.unify.new.self c.args.bounds.low placed c.in_ok-number.ensures.keeps _ _ c.unify.ensures.logged)
