use Rattle.std.proofs.Common.{length, sym, subst}
use Rattle.tp_terms.specs.Shown.{AreNamed}
use Rattle.tp_terms.proofs.Places.Shown.{AreNamed-push}
use Rattle.tp_term_tests.proofs.write.add.Goals as goal

pub returns-clause-named : goal.returns-clause-named
returns-clause-named c =
    subst (AreNamed (length c.args.atoms.now)) (sym c.in_ok-at.ensures.items)
    (AreNamed-push (length c.args.atoms.now) c.args.cells.now.items c.args.cell c.requires (c.is_ready.ensures.named c.if-not-is_ready.false))
