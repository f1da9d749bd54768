use Rattle.std.proofs.Common.{OnOk, subst}
use Rattle.tp_store.specs.Contents.{Contents, Keeps}
use Rattle.tp_store.specs.Chain.{contents_of}
use Rattle.tp_store.specs.Joined.{KeepsAtoms}
use Rattle.tp_store.proofs.Substitution.Kept.{Keeps-more}
use Rattle.tp_store.proofs.store.Store.copy.Goals as goal

pub returns-clause-keeps : goal.returns-clause-keeps
returns-clause-keeps c =
    let old = contents_of c.self.inside.chains in
    let new = contents_of c.copy.new.chains in
    let a = c.copy.ensures.adds in
    subst (λ (x : Contents). Keeps x new) c.self.view_is (Keeps-more old new a.more c.self.invariant.store a.cells a.pairs)

pub returns-clause-named : goal.returns-clause-named
returns-clause-named c =
    subst (λ (x : Contents). OnOk c.copy.result (KeepsAtoms x (contents_of c.copy.new.chains))) c.self.view_is c.copy.ensures.named
