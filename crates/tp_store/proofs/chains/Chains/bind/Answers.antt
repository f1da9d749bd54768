use Rattle.std.proofs.Common.{refl, length, [], Some, ap, sym, subst, ◌∙◌}
use Rattle.std.proofs.lemmas.List.{length-set}
use Rattle.tp_store.specs.Contents.{with_pair}
use Rattle.tp_store.specs.Chain.{IsTable, contents_of}
use Rattle.tp_store.proofs.Substitution.Kept.{IsStore-pair, IsTable-pair, IsChains-of, reverse-push}
use Rattle.tp_store.proofs.chains.Chains.bind.Goals as goal

pub bind-requires-clause-claimed : goal.bind-requires-clause-claimed
bind-requires-clause-claimed c = (c.requires.adds []).claimed

pub bind-requires-clause-unbound : goal.bind-requires-clause-unbound
bind-requires-clause-unbound c = c.requires.chains.table.kept c.args.number ∙ (c.requires.adds []).unbound

pub closed_with-closed-requires-clause-place : goal.closed_with-closed-requires-clause-place
closed_with-closed-requires-clause-place c = (c.requires.adds []).stands

pub returns-clause-chains : goal.returns-clause-chains
returns-clause-chains c =
    let old = contents_of c.args.self.now in
    let bound = c.args.self.now.trail.bound in
    IsChains-of _ (with_pair old c.args.number c.args.place) refl (reverse-push c.args.self.now.trail.pairs c.bind.new.self.pairs (c.args.number, c.args.place) c.in_ok-bind.ensures.pairs)
    (ap length c.in_ok-bind.ensures.bound ∙ length-set bound c.args.number (Some c.args.place))
    (IsStore-pair old c.args.number c.args.place c.requires.chains.store c.requires.adds)
    (subst (λ os. IsTable os (with_pair old c.args.number c.args.place).pairs) (sym c.in_ok-bind.ensures.bound)
    (IsTable-pair bound old.pairs c.args.number c.args.place c.requires.chains.table (c.requires.adds []).claimed))
    c.closed_with-closed.ensures
    c.requires.chains.fits
