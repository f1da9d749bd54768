use Rattle.std.proofs.Common.{subst, sym}
use Rattle.tp_store.specs.Contents.{Contents, Keeps, CanGoBack}
use Rattle.tp_store.specs.Chain.{contents_of}
use Rattle.tp_store.proofs.Substitution.Kept.{Keeps-cut}
use Rattle.tp_store.proofs.store.Store.back_to.Goals as goal

pub returns-clause-keeps : goal.returns-clause-keeps
returns-clause-keeps c =
    let old = contents_of c.self.inside.chains in
    let new = contents_of c.back_to.new.self in
    subst (λ (x : Contents). Keeps new x) c.self.view_is (Keeps-cut old new c.args.mark c.self.invariant.store (subst (λ (x : Contents). CanGoBack x c.args.mark) (sym c.self.view_is) c.requires) c.back_to.ensures.value)
