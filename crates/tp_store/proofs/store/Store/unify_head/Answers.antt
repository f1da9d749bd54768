use Rattle.std.proofs.Common.{ℕ, OnOk, subst}
use Rattle.tp_terms.specs.Shown.{AreNamed}
use Rattle.tp_store.specs.Contents.{Contents}
use Rattle.tp_store.specs.Chain.{contents_of}
use Rattle.tp_store.specs.Logged.{LogsHead}
use Rattle.tp_store.proofs.Logging.Head.{head_keeps}
use Rattle.tp_store.proofs.store.Store.unify_head.Goals as goal

pub returns-clause-terms : goal.returns-clause-terms
returns-clause-terms c =
    head_keeps c.unify_head.result c.args.self.now (contents_of c.unify_head.new.chains) c.args.log.now c.unify_head.new.log
    (subst (λ (x : Contents). LogsHead x (contents_of c.unify_head.new.chains) c.args.log.now c.unify_head.new.log) c.self.view_is c.unify_head.ensures.logged)

pub returns-clause-named : goal.returns-clause-named
returns-clause-named c =
    subst (λ (x : Contents). OnOk c.unify_head.result ((n : ℕ) → AreNamed n c.args.head.cells.now.items → AreNamed n x.cells → AreNamed n c.unify_head.new.chains.cells.items)) c.self.view_is c.unify_head.ensures.named
