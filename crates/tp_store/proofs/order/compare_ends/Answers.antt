use Rattle.std.proofs.Common.{sym, ◌∙◌}
use Rattle.tp_store.proofs.Comparison.Ranked.{ranks_cells, ranks_last}
use Rattle.tp_store.proofs.order.compare_ends.Goals as goal

pub returns-in_default : goal.returns-in_default
returns-in_default c contents s left right =
    ranks_cells c.args.atoms.now contents s c.args.left.cell c.args.right.cell c.args.work.now.items c.compare_cells.result left.unbound right.unbound
    (sym c.as_compound.ensures ∙ c.in_default.is) c.compare_cells.ensures

pub returns-in_default-as_compound : goal.returns-in_default-as_compound
returns-in_default-as_compound c contents s left right =
    ranks_last c.args.atoms.now contents s c.args.left.cell c.args.right.cell c.in-Some.first c.args.work.now.items right.unbound (sym c.as_compound.ensures ∙ c.in-Some.is)
    (sym c.as_compound-2.ensures ∙ c.in_default-as_compound.is)
