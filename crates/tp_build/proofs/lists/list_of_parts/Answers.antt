use Rattle.tp_build.proofs.PlacesShow.Lists.{empty-stands, parts-default}
use Rattle.tp_build.proofs.lists.list_of_parts.Goals as goal

pub link_of-requires-in_default : goal.link_of-requires-in_default
link_of-requires-in_default g c = record {
  heap = c.requires.heap;
  element = c.requires.term;
  tail = empty-stands (g.T.Terms.heap c.args.terms.now) c.requires.heap;
}

pub returns-in_default : goal.returns-in_default
returns-in_default g c = record {
  made = parts-default (g.T.Terms.heap c.args.terms.now) (g.T.Terms.heap c.link_of-in_default.new.terms) c.args.term c.link_of-in_default.result c.requires.heap c.requires.unbound c.in_default.not-Comp c.link_of-in_default.ensures.made;
  err = c.link_of-in_default.ensures.err;
  heap = c.link_of-in_default.ensures.heap;
}
