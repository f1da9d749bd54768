use Rattle.std.proofs.Common.{◌≡◌, ◌<◌, ◌++◌, length, map}
use Rattle.tp_terms.specs.Term.{term_size}
use Rattle.tp_meaning.specs.Heap.{seen}
use Rattle.tp_build.specs.Lists.{front, ending, place_seen, AreWithin}
use Rattle.tp_build.proofs.lists.walk.Given as goal

abbrev pub invariant-loop-first : goal.invariant-loop-first
invariant-loop-first g l = record {
  elements : map (place_seen (g.T.Terms.heap l.terms)) l.elements.items ++ front (seen (g.T.Terms.heap l.terms) l.at.at) ≡ front (seen (g.T.Terms.heap l.terms) l.fn.list.at);
  within : AreWithin (g.T.Terms.heap l.terms) l.elements.items;
  ends : ending (seen (g.T.Terms.heap l.terms) l.fn.list.at) ≡ ending (seen (g.T.Terms.heap l.terms) l.at.at);
  here : l.at.at < length (g.T.Terms.heap l.terms).cells;
}

abbrev pub decreases-loop-first : goal.decreases-loop-first
decreases-loop-first g l = term_size (seen (g.T.Terms.heap l.terms) l.at.at)
