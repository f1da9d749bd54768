use Rattle.std.proofs.Common.{subst}
use Rattle.tp_store.specs.Contents.{IsStore}
use Rattle.tp_store.proofs.Standing.Fits.{Fits-store}
use Rattle.tp_store.proofs.store.Store.cells.Goals as goal

pub returns-clause-fits : goal.returns-clause-fits
returns-clause-fits c = Fits-store c.args.self.now (subst IsStore c.self.view_is c.self.invariant.store)
