use Rattle.std.proofs.Common.{length}
use Rattle.tp_view.proofs.Heaps.{is-heap, named-after}
use Rattle.tp_view.proofs.view.ViewTerms.place.Goals as goal

pub returns-clause-heap : goal.returns-clause-heap
returns-clause-heap c =
    let v = c.args.self.now in
    is-heap c.place.new.self v.log v.atoms c.place.ensures.store c.requires.heap.table (named-after (length v.atoms) v.store c.place.new.self c.args.cell c.place.result c.place.ensures.value c.place.ensures.err c.requires.heap.named c.requires.cell.named)
