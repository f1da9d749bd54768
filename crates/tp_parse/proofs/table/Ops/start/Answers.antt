use Rattle.tp_parse.proofs.Operators.{start-table}
use Rattle.tp_parse.proofs.table.Ops.start.Goals as goal

pub returns : goal.returns
returns c = start-table _ _ c.empty-ops.ensures c.in_ok-set_all.ensures
