use Rattle.std.proofs.Common.{◌≡◌, ◌∙◌, reverse, length, set, None, refl, sym, ap, subst}
use Rattle.std.proofs.lemmas.List.{length-set}
use Rattle.tp_store.specs.Chain.{IsTable, contents_of}
use Rattle.tp_store.specs.Logged.{unbound, without_pair}
use Rattle.tp_store.proofs.Substitution.Kept.{IsChains-of}
use Rattle.tp_store.proofs.Substitution.Taken.{IsStore-unbound, IsTable-unbound, bound_claimed}
use Rattle.tp_store.proofs.Substitution.Closed.{closed-without}
use Rattle.tp_store.proofs.chains.Chains.undo_bind.Goals as goal

pub returns-clause-chains : goal.returns-clause-chains
returns-clause-chains c =
    let old = contents_of c.args.self.now in
    let bound = c.args.self.now.trail.bound in
    let left : reverse c.remove.new.self.pairs ≡ without_pair c.args.number old.pairs = ap reverse c.remove.ensures.pairs ∙ c.newest_of-at.ensures.removed in
    let table : c.remove.new.self.bound ≡ set bound c.args.number None = c.remove.ensures.bound ∙ ap (λ n. set bound n None) c.newest_of-at.ensures.number in
    IsChains-of _ (unbound c.args.number old) refl left (ap length table ∙ length-set bound c.args.number None) (IsStore-unbound c.args.number old c.requires.chains.store)
    (subst (λ os. IsTable os (without_pair c.args.number old.pairs)) (sym table)
    (IsTable-unbound c.args.number old bound c.requires.chains.store c.requires.chains.table (bound_claimed c.args.number old c.requires.chains.store c.requires.bound)))
    (closed-without c.args.number old.cells old.pairs c.args.self.now.closed c.requires.chains.closed)
    c.requires.chains.fits
