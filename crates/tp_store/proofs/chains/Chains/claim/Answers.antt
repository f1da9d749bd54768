use Rattle.std.proofs.Common.{refl, reverse, length, replicate, Option, None, ap, arith, length-append}
use Rattle.std.proofs.lemmas.List.{length-replicate}
use Rattle.tp_terms.specs.declared.cells.Ref.{Ref}
use Rattle.tp_store.specs.Contents.{with_vars}
use Rattle.tp_store.specs.Chain.{contents_of}
use Rattle.tp_store.proofs.Substitution.Kept.{IsStore-vars, IsTable-vars, IsChains-of}
use Rattle.tp_store.proofs.Substitution.Closed.{closed-store}
use Rattle.tp_store.proofs.chains.Chains.claim.Goals as goal

pub returns-clause-chains : goal.returns-clause-chains
returns-clause-chains c =
    let old = contents_of c.args.self.now in
    let bound = c.args.self.now.trail.bound in
    let none : Option Ref = None in
    IsChains-of _ (with_vars old c.args.n) refl (ap reverse c.in_ok-claim.ensures.pairs)
    (omega (arith, ap length c.in_ok-claim.ensures.bound, length-append bound (replicate c.args.n none), length-replicate c.args.n none))
    (IsStore-vars old c.args.n c.requires.chains.store)
    (IsTable-vars bound c.claim.new.self.bound old.pairs c.args.n c.requires.chains.table c.in_ok-claim.ensures.bound)
    (closed-store old _ c.requires.chains.store (omega arith) (omega arith))
    c.in_ok-claim.ensures.fits
