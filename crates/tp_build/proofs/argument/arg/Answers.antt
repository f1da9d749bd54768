use Rattle.tp_meaning.specs.Heap.{seen}
use Rattle.tp_build.proofs.argument.arg.Goals as goal

pub raise-requires-clause-fault : goal.raise-requires-clause-fault
raise-requires-clause-fault g c =
    let h = g.T.Terms.heap c.args.terms.now in
    (c.in-Err.ensures h c.args.number.at c.args.of.at c.look.ensures.top c.look-2.ensures.top h.subst h.next (seen h c.args.argument.at)).stands
