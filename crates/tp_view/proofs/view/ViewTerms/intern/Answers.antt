use Rattle.std.specs.Prelude.{chars}
use Rattle.tp_view.proofs.Heaps.{heap-names, heap-longer}
use Rattle.tp_view.proofs.view.ViewTerms.intern.Goals as goal

pub returns-clause-value : goal.returns-clause-value
returns-clause-value c =
    let v = c.args.self.now in
    heap-names v.store v.log v.atoms c.intern.new.self (chars c.args.name.now) c.intern.result c.intern.ensures.grows c.requires.heap.named c.intern.ensures.names

pub returns-clause-heap : goal.returns-clause-heap
returns-clause-heap c =
    let v = c.args.self.now in
    heap-longer v.store v.log v.atoms c.intern.new.self c.intern.ensures.grows c.intern.ensures.table c.requires.heap
