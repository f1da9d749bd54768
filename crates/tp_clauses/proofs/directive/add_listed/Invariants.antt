use Rattle.std.proofs.Common.{◌≡◌, ◌<◌, length}
use Rattle.tp_terms.specs.Shown.{name_at, shows}
use Rattle.tp_parse.specs.Ops.{table_of}
use Rattle.tp_clauses.specs.Directives.{listed_names}
use Rattle.tp_clauses.specs.Told.{each_added}
use Rattle.tp_clauses.proofs.directive.add_listed.Given as goal

abbrev pub invariant-names : goal.invariant-names
invariant-names l = record {
  within : l.rest.at < length l.cells.items;
  same : each_added l.fn.operators.priority (name_at l.atoms l.fn.operators.kind.at) (listed_names (shows l.atoms l.cells.items l.rest.at)) (table_of l.ops) ≡ each_added l.fn.operators.priority (name_at l.atoms l.fn.operators.kind.at) (listed_names (shows l.atoms l.cells.items l.fn.operators.names.at)) (table_of l.fn.ops);
}

abbrev pub decreases-names : goal.decreases-names
decreases-names l = l.rest.at
