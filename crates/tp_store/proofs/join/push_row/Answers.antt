use Rattle.std.proofs.Common.{arith}
use Rattle.tp_store.specs.Chain.{contents_of}
use Rattle.tp_store.proofs.Arguments.Joined.{row_start, row_next}
use Rattle.tp_store.proofs.join.push_row.Goals as goal

pub row-init : goal.row-init
row-init c = record { chains = c.requires.chains; row = row_start (contents_of c.args.chains.now) c.args.first.at }

pub row-preserved : goal.row-preserved
row-preserved c = record {
  chains = c.in_ok-place.ensures.chains;
  row = row_next (contents_of c.args.chains.now) (contents_of c.row.chains) (contents_of c.place.new.self) c.args.first.at c.row.k c.get-cell.result c.row.invariant.row
      (omega arith) c.get-cell.ensures.value c.get-cell.ensures.before c.in_ok-place.ensures.value;
}
