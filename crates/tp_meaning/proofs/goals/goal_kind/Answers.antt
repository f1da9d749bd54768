use Rattle.std.proofs.Common.{◌-◌, sym, ap, ◌∙◌, arith}
use Rattle.std.proofs.lemmas.Option.{slice_get_past}
use Rattle.tp_meaning.specs.declared.goals.TheConstants.{GOALS}
use Rattle.tp_meaning.proofs.OwnGoals.Found.{goal_kind-place, goal_kind-before, kind_of}
use Rattle.tp_meaning.proofs.goals.goal_kind.Goals as goal

pub returns-then-name : goal.returns-then-name
returns-then-name c names t lt = sym (goal_kind-before names t c.args.name.at c.args.count lt c.if-name.true)

pub returns-then-place-ge47 : goal.returns-then-place-ge47
returns-then-place-ge47 c names t lt =
    let d = c.args.name.at - 3 in
    sym (goal_kind-place names t c.args.name.at d c.args.count lt (omega arith) ∙ ap (λ o. kind_of o c.args.count) (slice_get_past GOALS d c.if-place-ge47.true))

pub returns : goal.returns
returns c names t lt =
    let d = c.args.name.at - 3 in
    c.kind_of_row.ensures ∙ sym (goal_kind-place names t c.args.name.at d c.args.count lt (omega arith) ∙ ap (λ o. kind_of o c.args.count) c.row_at-row.ensures)
