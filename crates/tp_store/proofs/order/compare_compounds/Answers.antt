use Rattle.std.proofs.Common.{sym, ◌∙◌}
use Rattle.tp_store.proofs.Comparison.Ranked.{heads_decide, same_arguments, arguments_decide}
use Rattle.tp_store.proofs.order.compare_compounds.Goals as goal

pub returns-in_default : goal.returns-in_default
returns-in_default c contents le le' = heads_decide c.args.atoms.now contents c.args.left c.args.right c.args.work.now.items c.compare_heads.result c.compare_heads.ensures c.in_default.not-Equal

pub returns-in_ok-push_rows : goal.returns-in_ok-push_rows
returns-in_ok-push_rows c contents le le' =
    arguments_decide c.args.atoms.now contents c.args.left c.args.right c.args.work.now.items (sym c.compare_heads.ensures ∙ c.in-Equal.is) c.push_rows.new.work.items le le' c.in_ok-push_rows.ensures

pub returns-else-left-right : goal.returns-else-left-right
returns-else-left-right c contents le le' =
    same_arguments c.args.atoms.now contents c.args.left c.args.right c.args.work.now.items (sym c.compare_heads.ensures ∙ c.in-Equal.is) c.if-left-right.false
