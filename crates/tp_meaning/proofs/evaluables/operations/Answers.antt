use Rattle.std.proofs.Common.{◌-◌, sym, ap, ◌∙◌, arith}
use Rattle.std.proofs.lemmas.Option.{slice_get_past}
use Rattle.tp_meaning.specs.declared.evaluables.TheConstants.{OPERATIONS}
use Rattle.tp_meaning.proofs.OwnGoals.Operations.{operations_of-place, operations_of-before, or_none}
use Rattle.tp_meaning.proofs.evaluables.operations.Goals as goal

pub returns-then-name : goal.returns-then-name
returns-then-name c names t lt = sym (operations_of-before names t c.args.name.at lt c.if-name.true)

pub returns-then-place-ge16 : goal.returns-then-place-ge16
returns-then-place-ge16 c names t lt =
    let d = c.args.name.at - 50 in
    sym (operations_of-place names t c.args.name.at d lt (omega arith) ∙ ap or_none (slice_get_past OPERATIONS d c.if-place-ge16.true))

pub returns : goal.returns
returns c names t lt =
    let d = c.args.name.at - 50 in
    sym (operations_of-place names t c.args.name.at d lt (omega arith) ∙ ap or_none c.operations_at.ensures)
