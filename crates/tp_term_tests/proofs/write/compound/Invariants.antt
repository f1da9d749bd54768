use Rattle.std.proofs.Common.{length}
use Rattle.tp_terms.specs.Shown.{AreNamed}
use Rattle.tp_term_tests.proofs.write.compound.Given as goal

abbrev pub invariant-parts : goal.invariant-parts
invariant-parts l = AreNamed (length l.atoms) l.cells.items
