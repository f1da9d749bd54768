use Rattle.tp_machine.proofs.Step.Acting.{first_there}
use Rattle.tp_machine.proofs.Step.United.{told_rests, told_unites, told-before, told-numbered}
use Rattle.std.proofs.Common.{length}
use Rattle.tp_machine.proofs.machine.Machine.place_told.Goals as goal

pub place-requires-clause-before : goal.place-requires-clause-before
place-requires-clause-before c = told-before (length c.args.self.now.atoms) _ c.args.value c.requires.tells.told

pub place-requires-clause-numbered : goal.place-requires-clause-numbered
place-requires-clause-numbered c = told-numbered (length c.args.self.now.atoms) _ c.args.value c.requires.tells.told

pub returns-clause-rests : goal.returns-clause-rests
returns-clause-rests c =
    let h = c.requires.tells in
    told_rests c.args.self.now c.args._task c.args._call c.args._goal c.args.value c.requires.machine h
    (first_there c.args.self.now c.args._task c.args._call c.args._goal h.calls) c.place.new.self c.in_ok-place.ensures.value c.in_ok-place.ensures.keeps c.place.ensures.store

pub returns-clause-unites : goal.returns-clause-unites
returns-clause-unites c =
    let h = c.requires.tells in
    told_unites c.args.self.now c.args._task c.args._call c.args._goal c.args.value c.requires.machine h
    (first_there c.args.self.now c.args._task c.args._call c.args._goal h.calls) c.place.new.self c.in_ok-place.ensures.value c.in_ok-place.ensures.keeps c.place.ensures.store
    c.in_ok-place.place c.in_ok-place.ensures.place
