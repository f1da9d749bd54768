use Rattle.std.proofs.Common.{length, reverse, [], ap, sym, subst, ◌∙◌, ◌≤◌, arith}
use Rattle.std.proofs.lemmas.List.{length-take}
use Rattle.tp_store.specs.Contents.{cut_to_mark}
use Rattle.tp_store.specs.Chain.{contents_of, IsTable}
use Rattle.tp_store.proofs.Substitution.Kept.{IsStore-cut, IsTable-cut, IsChains-of}
use Rattle.tp_store.proofs.Substitution.Closed.{closed-take}
use Rattle.tp_store.proofs.chains.Chains.back_to.Goals as goal

pub cut_to-requires-2 : goal.cut_to-requires-2
cut_to-requires-2 c = λ v le. c.requires.chains.table.kept v ∙ c.requires.can.numbers v le

pub returns-clause-chains : goal.returns-clause-chains
returns-clause-chains c =
    let old = contents_of c.args.self.now in
    let bound = c.args.self.now.trail.bound in
    IsChains-of _ (cut_to_mark old c.args.mark) c.cut_to.ensures.items (ap reverse c.cut_to-2.ensures.pairs) (let le : c.args.mark.vars ≤ length bound = c.requires.can.vars in omega (arith, ap length c.cut_to-2.ensures.bound, length-take c.args.mark.vars bound))
    (IsStore-cut old c.args.mark c.requires.chains.store c.requires.can)
    (subst (λ os. IsTable os old.pairs) (sym c.cut_to-2.ensures.bound) (IsTable-cut bound old.pairs c.args.mark.vars c.requires.chains.table c.requires.can.numbers))
    (closed-take c.args.mark.cells old.cells c.args.mark.vars old.pairs c.args.self.now.closed ((IsStore-cut old c.args.mark c.requires.chains.store c.requires.can).chain []) c.requires.chains.closed)
    (omega (arith, c.requires.can.vars, c.requires.chains.fits))
