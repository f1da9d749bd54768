use Rattle.std.proofs.Common.{length}
use Rattle.tp_view.proofs.Heaps.{is-heap, named-copied}
use Rattle.tp_view.proofs.view.ViewTerms.copy.Goals as goal

pub returns-clause-heap : goal.returns-clause-heap
returns-clause-heap c =
    let v = c.args.self.now in
    is-heap c.copy.new.self v.log v.atoms c.copy.ensures.store c.requires.heap.table (named-copied (length v.atoms) v.store c.copy.new.self c.copy.result c.copy.ensures.named c.copy.ensures.err c.requires.heap.named)
