use Rattle.std.proofs.Common.{OnOk, subst}
use Rattle.tp_store.specs.Contents.{Contents, Keeps}
use Rattle.tp_store.specs.Chain.{contents_of}
use Rattle.tp_store.specs.Joined.{KeepsAtoms}
use Rattle.tp_store.proofs.Substitution.Kept.{Keeps-adds}
use Rattle.tp_store.proofs.store.Store.join.Goals as goal

pub returns-clause-keeps : goal.returns-clause-keeps
returns-clause-keeps c =
    subst (λ (x : Contents). Keeps x (contents_of c.goal_with.new.chains)) c.self.view_is (Keeps-adds (contents_of c.self.inside.chains) (contents_of c.goal_with.new.chains) c.self.invariant.store c.goal_with.ensures.adds)

pub returns-clause-named : goal.returns-clause-named
returns-clause-named c =
    subst (λ (x : Contents). OnOk c.goal_with.result (KeepsAtoms x (contents_of c.goal_with.new.chains))) c.self.view_is c.goal_with.ensures.named
