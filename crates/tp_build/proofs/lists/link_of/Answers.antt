use Rattle.std.proofs.Common.{arith}
use Rattle.tp_terms.proofs.Naming.Start.{start-within}
use Rattle.tp_build.proofs.PlacesShow.Lists.{makes-link}
use Rattle.tp_build.proofs.lists.link_of.Goals as goal

pub compound_of_two-requires-clause-name : goal.compound_of_two-requires-clause-name
compound_of_two-requires-clause-name g c = start-within (g.T.Terms.heap c.args.terms.now).names c.requires.heap.table 0 (omega arith)

pub returns-clause-made : goal.returns-clause-made
returns-clause-made g c =
    makes-link (g.T.Terms.heap c.args.terms.now) (g.T.Terms.heap c.compound_of_two.new.terms) c.in_ok-made.made c.args.element c.args.tail c.requires.heap c.in_ok-made.ensures.made
