use Rattle.std.proofs.Common.{OnOk, refl, subst}
use Rattle.tp_store.specs.Contents.{Contents, Keeps, with_vars}
use Rattle.tp_store.specs.Chain.{contents_of}
use Rattle.tp_store.proofs.Substitution.Kept.{keeps_ok}
use Rattle.tp_store.proofs.store.Store.fresh.Goals as goal

pub returns-clause-keeps : goal.returns-clause-keeps
returns-clause-keeps c =
    let old = contents_of c.self.inside.chains in
    let new = contents_of c.fresh.new.self in
    subst (λ (x : Contents). OnOk c.fresh.result (Keeps x new)) c.self.view_is (keeps_ok c.fresh.result old new (with_vars old 1) _ c.self.invariant.store refl refl c.fresh.ensures.value)
