use Rattle.tp_state.specs.State.{plain_of}
use Rattle.tp_machine.proofs.Enters.Begun.{starts, placed_at, placed_none}
use Rattle.tp_machine.proofs.begin.first_state.Goals as goal

pub returns-in_default-clause-start : goal.returns-in_default-clause-start
returns-in_default-clause-start c names table named = placed_none names c.args.goal.now c.place_goal.new.store _ c.in_default.is (c.in_ok-place.ensures names table named)

pub returns-clause-start : goal.returns-clause-start
returns-clause-start c names table named =
    starts names c.args.goal.now c.in-Some.place c.place_goal.new.store (plain_of c.in_ok-state.state)
    (placed_at names c.args.goal.now c.place_goal.new.store _ c.in-Some.place c.in-Some.is (c.in_ok-place.ensures names table named))
    c.in_ok-state.ensures.plain
