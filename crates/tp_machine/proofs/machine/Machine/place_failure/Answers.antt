use Rattle.tp_machine.proofs.Grows.Failure.{failure_adds, failure_named, failure_is, stands_still}
use Rattle.tp_machine.proofs.Grows.Grown.{rests}
use Rattle.tp_machine.proofs.machine.Machine.place_failure.Goals as goal

pub returns-clause-rests : goal.returns-clause-rests
returns-clause-rests c =
    let m = c.args.self.now in
    rests m c.place.new.self c.requires.machine (failure_adds m.state.store c.place.new.self c.in_ok-place.ensures.value) c.in_ok-place.ensures.keeps c.place.ensures.store (failure_named m c.place.new.self c.requires.machine c.in_ok-place.ensures.value)

pub returns-clause-failure : goal.returns-clause-failure
returns-clause-failure c = failure_is c.args.self.now c.place.new.self c.in_ok-place.place c.requires.machine c.in_ok-place.ensures.value c.in_ok-place.ensures.place c.place.ensures.store

pub returns-clause-stands : goal.returns-clause-stands
returns-clause-stands c =
    stands_still c.args.self.now c.place.new.self c.args._task c.args._call c.args._place c.requires.machine c.in_ok-place.ensures.value c.in_ok-place.ensures.keeps c.place.ensures.store c.requires.stands
