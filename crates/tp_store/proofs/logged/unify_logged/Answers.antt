use Rattle.std.proofs.Common.{arith}
use Rattle.tp_store.specs.Chain.{contents_of}
use Rattle.tp_store.proofs.Unifier.General.{undone_same}
use Rattle.tp_store.proofs.Logging.Entries.{logs_of, logs_none}
use Rattle.tp_store.proofs.logged.unify_logged.Goals as goal

pub returns-in-Ok-clause-logged : goal.returns-in-Ok-clause-logged
returns-in-Ok-clause-logged c =
    logs_of c.args.chains.now c.unify.new.chains c.len-kept.result c.args.log.now c.log_bindings.new.log c.in_ok-unify.ensures.adds (omega arith) c.in-Ok.ensures.logged

pub returns-in-Err-clause-undone : goal.returns-in-Err-clause-undone
returns-in-Err-clause-undone c = λ _. undone_same c.args.chains.now c.unify.new.chains (contents_of c.undo_to.new.self) _ c.in_ok-unify.ensures.adds (omega arith) c.undo_to.ensures.value

pub returns-in-Err-clause-logged : goal.returns-in-Err-clause-logged
returns-in-Err-clause-logged c =
    logs_none (contents_of c.args.chains.now) (contents_of c.undo_to.new.self) c.args.log.now c.log_bindings.new.log
    (undone_same c.args.chains.now c.unify.new.chains (contents_of c.undo_to.new.self) _ c.in_ok-unify.ensures.adds (omega arith) c.undo_to.ensures.value)
    c.in-Err.ensures.stays
