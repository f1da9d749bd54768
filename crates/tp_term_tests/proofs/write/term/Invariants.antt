use Rattle.std.proofs.Common.{length}
use Rattle.tp_terms.specs.Shown.{AreNamed}
use Rattle.tp_term_tests.proofs.write.term.Given as goal

abbrev pub invariant-words : goal.invariant-words
invariant-words l = AreNamed (length l.atoms) l.cells.items
