use Rattle.tp_machine.proofs.Trying.Found.{candidates-tried}
use Rattle.tp_machine.proofs.Trying.Split.{candidates-rise, some-of}
use Rattle.tp_machine.proofs.machine.Machine.candidates.Goals as goal

pub returns-clause-rises : goal.returns-clause-rises
returns-clause-rises c =
    let m = c.args.self.now in
    let call = c.args.call in
    some-of _ _ _ c.candidates.result c.candidates.ensures.listed (λ ids e. candidates-rise call.name call.count c.first_of-first.result m.base.now ids.now e)

pub returns-clause-tried : goal.returns-clause-tried
returns-clause-tried c =
    let m = c.args.self.now in
    let call = c.args.call in
    some-of _ _ _ c.candidates.result c.candidates.ensures.listed
    (λ ids e t calls. candidates-tried m t call calls c.first_of-first.result ids.now (c.first_of-first.ensures m.atoms c.requires.machine.stands.atoms) e)
