use Rattle.std.proofs.Common.{ℕ, subst}
use Rattle.tp_terms.specs.Shown.{AreNamed}
use Rattle.tp_store.specs.Contents.{Contents, Keeps}
use Rattle.tp_store.specs.Chain.{contents_of}
use Rattle.tp_store.proofs.Substitution.Kept.{Keeps-adds}
use Rattle.tp_store.proofs.store.Store.block.Goals as goal

pub returns-clause-keeps : goal.returns-clause-keeps
returns-clause-keeps c =
    subst (λ (x : Contents). Keeps x (contents_of c.copy_block.new.chains)) c.self.view_is (Keeps-adds (contents_of c.self.inside.chains) (contents_of c.copy_block.new.chains) c.self.invariant.store c.in_ok-copy.ensures.adds)

pub returns-clause-named : goal.returns-clause-named
returns-clause-named c =
    subst (λ (x : Contents). (n : ℕ) → AreNamed n c.args.from.now.items → AreNamed n x.cells → AreNamed n c.copy_block.new.chains.cells.items) c.self.view_is c.in_ok-copy.ensures.named
