use Rattle.std.proofs.Common.{◌≡◌, ◌-◌, ◌<◌, ◌≤◌, List, Some, length, slice_get, codes}
use Rattle.tp_terms.specs.Term.{Name}
use Rattle.tp_parse.specs.Tree.{Tree}
use Rattle.tp_parse.specs.Making.{AllBefore, IsMade}
use Rattle.tp_parse.specs.Steps.{linked}
use Rattle.tp_parse.proofs.build.link.Given as goal

-- so many links are made, and the terms for the others are there
abbrev pub invariant-links : goal.invariant-links
invariant-links l = record {
  made : (names : List Name) (trees : List Tree) → slice_get names l.cell.at ≡ Some (codes ".") → IsMade names l.fn.making trees → IsMade names l.making (linked l.counter trees);
  within : l.counter ≤ l.count;
  enough : l.count - l.counter < length l.making.made.items;
  stands : AllBefore (length l.making.cells.items) l.making.made.items;
  variables : l.making.variables ≡ l.fn.making.variables;
}
