use Rattle.std.proofs.Common.{OnOk, refl, subst}
use Rattle.tp_store.specs.Contents.{Contents, Keeps}
use Rattle.tp_store.specs.Chain.{contents_of}
use Rattle.tp_store.proofs.Substitution.Kept.{keeps_ok}
use Rattle.tp_store.proofs.store.Store.place.Goals as goal

pub returns-clause-keeps : goal.returns-clause-keeps
returns-clause-keeps c =
    let old = contents_of c.self.inside.chains in
    let new = contents_of c.place.new.self in
    subst (λ (x : Contents). OnOk c.place.result (Keeps x new)) c.self.view_is (keeps_ok c.place.result old new old c.args.cell c.self.invariant.store refl refl c.place.ensures.value)
