use Rattle.tp_store.specs.Chain.{IsChains, contents_of}
use Rattle.tp_store.specs.Joined.{AddsRow}
use Rattle.tp_store.proofs.join.push_row.Given as goal

abbrev pub invariant-row : goal.invariant-row
invariant-row l = record {
  chains : IsChains l.chains;
  row : AddsRow (contents_of l.fn.chains) (contents_of l.chains) l.first.at l.k;
}
