use Rattle.std.proofs.Common.{refl, arith}
use Rattle.tp_store.specs.Contents.{with_cell}
use Rattle.tp_store.specs.Chain.{contents_of}
use Rattle.tp_store.proofs.Substitution.Kept.{IsStore-cell, IsChains-of}
use Rattle.tp_store.proofs.Substitution.Closed.{closed-cell}
use Rattle.tp_store.proofs.chains.Chains.place.Goals as goal

pub returns-clause-chains : goal.returns-clause-chains
returns-clause-chains c =
    let old = contents_of c.args.self.now in
    IsChains-of _ (with_cell old c.args.cell) c.in_ok-at.ensures.items refl refl (IsStore-cell old c.args.cell c.requires.chains.store c.requires.before c.requires.numbered) c.requires.chains.table
    (closed-cell old c.args.cell c.args.self.now.closed (record { cells = c.min-self.result; vars = c.args.self.now.closed.vars }) c.requires.chains.store c.requires.chains.closed refl (omega arith) (omega (arith, c.in_ok-at.ensures.place)) (λ at l k. omega (arith, c.in_ok-at.ensures.place)))
    c.requires.chains.fits
