use Rattle.std.proofs.Common.{length}
use Rattle.tp_terms.proofs.Naming.Tables.{Grows-length}
use Rattle.tp_terms.proofs.Places.Shown.{AreNamed-longer}
use Rattle.tp_run_tests.proofs.engine.asks.Goals as goal

pub starts-requires-clause-base : goal.starts-requires-clause-base
starts-requires-clause-base c =
    AreNamed-longer (length c.base_of.new.atoms) (length c.goal_of.new.atoms) c.in_ok-base.base.cells (Grows-length c.base_of.new.atoms c.goal_of.new.atoms c.in_ok-goal.ensures.grows) c.in_ok-base.ensures
