use Rattle.std.proofs.Common.{ℕ, ◌<◌, OnOk, subst}
use Rattle.tp_terms.specs.declared.symbols.TheConstants.{CALL}
use Rattle.tp_terms.specs.Shown.{AreNamed}
use Rattle.tp_store.specs.Contents.{Contents, Keeps}
use Rattle.tp_store.specs.Chain.{contents_of}
use Rattle.tp_store.proofs.Substitution.Kept.{Keeps-adds}
use Rattle.tp_store.proofs.store.Store.body.Goals as goal

pub returns-clause-keeps : goal.returns-clause-keeps
returns-clause-keeps c =
    subst (λ (x : Contents). Keeps x (contents_of c.body_of.new.chains)) c.self.view_is (Keeps-adds (contents_of c.self.inside.chains) (contents_of c.body_of.new.chains) c.self.invariant.store c.body_of.ensures.adds)

pub returns-clause-named : goal.returns-clause-named
returns-clause-named c =
    subst (λ (x : Contents). OnOk c.body_of.result ((n : ℕ) → CALL.at < n → AreNamed n x.cells → AreNamed n c.body_of.new.chains.cells.items)) c.self.view_is c.body_of.ensures.named
