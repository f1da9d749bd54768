use Rattle.std.proofs.Common.{length, subst, sym}
use Rattle.tp_terms.specs.Shown.{AreNamed}
use Rattle.tp_view.proofs.Heaps.{is-heap}
use Rattle.tp_view.proofs.view.ViewTerms.unify.Goals as goal

pub returns-clause-heap : goal.returns-clause-heap
returns-clause-heap c =
    let v = c.args.self.now in
    is-heap c.unify.new.self c.unify.new.log v.atoms c.unify.ensures.store c.requires.heap.table (subst (AreNamed (length v.atoms)) (sym c.unify.ensures.logged.cells) c.requires.heap.named)
