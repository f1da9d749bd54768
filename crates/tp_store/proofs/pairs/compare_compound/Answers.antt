use Rattle.std.proofs.Common.{refl, ap, arith}
use Rattle.tp_terms.specs.declared.cells.Cell.TheVariants.{Comp}
use Rattle.tp_store.proofs.Unifier.Work.{bind_right, clash_names, clash_counts, same_compounds}
use Rattle.tp_store.proofs.pairs.compare_compound.Goals as goal
use Rattle.tp_store.proofs.pairs.compare_compound.Goals.{then-name-second-via-then-name-second, then-name-second-via-else-name-second+then-args-count}

pub returns-in-Var : goal.returns-in-Var
returns-in-Var c = λ contents left right. bind_right contents _ c.args.other c.in-Var.number c.args.work.now.items left right c.in-Var.is (omega arith)

pub returns-then-name-second : goal.returns-then-name-second
returns-then-name-second c = λ contents left right.
    elim c.then-name-second.branch [
      | then-name-second-via-then-name-second w ↦
          clash_names contents _ c.args.other c.args.name c.in-Comp.second c.args.args.0 c.in-Comp.first c.args.args.1 c.in-Comp.count c.args.work.now.items left right refl c.in-Comp.is w.if-name-second.true
      | then-name-second-via-else-name-second+then-args-count w ↦
          clash_counts contents _ c.args.other.cell c.args.name c.in-Comp.second c.args.args.0 c.in-Comp.first c.args.args.1 c.in-Comp.count c.args.work.now.items refl c.in-Comp.is w.if-args-count.true
    ]

pub returns-in_ok-push_rows-in-Comp : goal.returns-in_ok-push_rows-in-Comp
returns-in_ok-push_rows-in-Comp c = λ contents left right.
    same_compounds contents _ c.args.other c.args.name c.in-Comp.second c.args.args.0 c.in-Comp.first c.in-Comp.count c.args.work.now.items _ left right
    (ap (Comp c.args.name c.args.args.0) c.if-args-count.false) c.in-Comp.is c.if-name-second.false c.in_ok-push_rows-in-Comp.ensures
