use Rattle.std.proofs.Common.{◌+◌, subst, sym}
use Rattle.tp_machine.specs.Trying.{AreTried}
use Rattle.tp_machine.proofs.Trying.Found.{behind-tried}
use Rattle.tp_machine.proofs.machine.Machine.candidates_behind.Goals as goal

pub returns-in-Some : goal.returns-in-Some
returns-in-Some c t place p =
    let m = c.args.self.now in
    subst (AreTried m t c.args.call (place + 1)) (sym c.behind.ensures)
    (behind-tried m t c.args.call p.calls place c.args.id c.in-Some.ids.now p.there (c.in-Some.ensures.tried t p.calls))
