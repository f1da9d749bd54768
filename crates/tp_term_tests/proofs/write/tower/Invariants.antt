use Rattle.std.proofs.Common.{length}
use Rattle.tp_terms.specs.Shown.{AreNamed}
use Rattle.tp_term_tests.proofs.write.tower.Given as goal

abbrev pub invariant-floors : goal.invariant-floors
invariant-floors l = AreNamed (length l.atoms) l.cells.items
