use Rattle.std.proofs.Common.{[], ◌∷◌, ◌++◌, Ok, ap, sym, ◌∙◌}
use Rattle.tp_machine.proofs.Step.Receiving.{receivers_empty, receivers_found, receivers_refused}
use Rattle.tp_machine.proofs.machine.Machine.receivers_of_atom.Goals as goal

pub returns-then-name : goal.returns-then-name
returns-then-name c =
    receivers_empty c.args.self.now c.args.at c.requires.at c.requires.machine c.args.name c.requires.name c.requires.is c.if-name.true
    ∙ ap Ok (sym c.new-all.ensures.items)

pub returns-in_ok-push-in-Ok : goal.returns-in_ok-push-in-Ok
returns-in_ok-push-in-Ok c =
    receivers_found c.args.self.now c.args.at c.requires.at c.requires.machine c.args.name c.requires.name c.requires.is c.in-Ok.process c.if-name.false c.in-Ok.ensures
    ∙ ap Ok (sym (c.in_ok-push-in-Ok.ensures.items ∙ ap (λ xs. xs ++ c.in-Ok.process ∷ []) c.new-all.ensures.items))

pub returns-in-Err : goal.returns-in-Err
returns-in-Err c =
    receivers_refused c.args.self.now c.args.at c.requires.at c.requires.machine c.args.name c.requires.name c.requires.is c.in-Err.why c.if-name.false c.in-Err.ensures
