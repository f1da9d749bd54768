use Rattle.std.proofs.Common.{length}
use Rattle.tp_view.proofs.Heaps.{is-heap, named-fresh}
use Rattle.tp_view.proofs.view.ViewTerms.fresh.Goals as goal

pub returns-clause-heap : goal.returns-clause-heap
returns-clause-heap c =
    let v = c.args.self.now in
    is-heap c.fresh.new.self v.log v.atoms c.fresh.ensures.store c.requires.heap.table (named-fresh (length v.atoms) v.store c.fresh.new.self c.fresh.result c.fresh.ensures.value c.fresh.ensures.err c.requires.heap.named)
