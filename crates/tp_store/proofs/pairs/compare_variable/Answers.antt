use Rattle.std.proofs.Common.{◌≡◌, ◌+◌, ap, sym, ◌∙◌, refl, arith}
use Rattle.tp_terms.specs.declared.cells.Cell.TheVariants.{Var}
use Rattle.tp_store.specs.Chain.{rank}
use Rattle.tp_store.proofs.Unifier.Work.{bind_left, bind_right, same_cells, no_variable}
use Rattle.tp_store.proofs.pairs.compare_variable.Goals as goal

pub returns-then-number-second : goal.returns-then-number-second
returns-then-number-second c = λ contents work left right.
    bind_right contents _ c.args.other c.in-Var.second work left right c.in-Var.is (omega arith)

pub returns-then-second-number : goal.returns-then-second-number
returns-then-second-number c = λ contents work left right.
    bind_left contents _ c.args.other c.args.number work left right refl (let e : rank c.args.other.cell ≡ c.in-Var.second + 1 = ap rank c.in-Var.is in omega arith)

pub returns-else-second-number : goal.returns-else-second-number
returns-else-second-number c = λ contents work left right.
    same_cells contents _ c.args.other.cell work (let e : c.args.number ≡ c.in-Var.second = omega arith in ap Var e ∙ sym c.in-Var.is)

pub returns-in_default : goal.returns-in_default
returns-in_default c = λ contents work left right.
    bind_left contents _ c.args.other c.args.number work left right refl (no_variable c.args.other.cell c.args.number c.in_default.not-Var)
