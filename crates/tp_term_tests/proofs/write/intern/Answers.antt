use Rattle.std.proofs.Common.{length}
use Rattle.tp_terms.proofs.Naming.Tables.{Grows-length}
use Rattle.tp_terms.proofs.Places.Shown.{AreNamed-longer}
use Rattle.tp_term_tests.proofs.write.intern.Goals as goal

pub returns : goal.returns
returns c = AreNamed-longer (length c.args.atoms.now) (length c.intern.new.self) c.args.cells.now.items (Grows-length c.args.atoms.now c.intern.new.self c.intern.ensures.grows) c.requires
