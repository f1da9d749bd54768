use Rattle.std.proofs.Common.{[], true, refl, subst, arith}
use Rattle.tp_terms.specs.Shown.{shows}
use Rattle.tp_meaning.specs.Clauses.{renamed}
use Rattle.tp_store.specs.Chain.{contents_of}
use Rattle.tp_store.specs.Meeting.{Meets}
use Rattle.tp_store.proofs.Logging.Head.{head_none}
use Rattle.tp_store.proofs.HeadsMeet.Logged.{can_take_back, logs_both, met_finds, missed, took_back}
use Rattle.tp_store.proofs.head.unify_head.Goals as goal

pub take_back-requires-clause-can : goal.take_back-requires-clause-can
take_back-requires-clause-can c = can_take_back c.args.chains.now c.meet_all.new.chains c.len-kept.result _ c.requires.chains c.meet_all.ensures.adds (omega arith) (omega arith) (omega arith)

pub take_back-requires-in-Err-clause-can : goal.take_back-requires-in-Err-clause-can
take_back-requires-in-Err-clause-can c = can_take_back c.args.chains.now c.meet_all.new.chains c.len-kept.result _ c.requires.chains c.meet_all.ensures.adds (omega arith) (omega arith) (omega arith)

pub take_back-requires-in-Err-log_bindings-clause-can : goal.take_back-requires-in-Err-log_bindings-clause-can
take_back-requires-in-Err-log_bindings-clause-can c = can_take_back c.args.chains.now c.meet_all.new.chains c.len-kept.result _ c.requires.chains c.meet_all.ensures.adds (omega arith) (omega arith) (omega arith)

pub returns-in-Ok-clause-found : goal.returns-in-Ok-clause-found
returns-in-Ok-clause-found c =
    let old = contents_of c.args.chains.now in
    let now = contents_of c.meet_all.new.chains in
    met_finds old now c.args.goal c.args.head.root c.args.head.cells.now.items c.args.head.base c.requires.chains.store c.meet_all.ensures.chains.store true
    (subst (Meets old now c.args.head.cells.now.items (λ names. shows names old.cells c.args.goal.at) (λ names. renamed c.args.head.base (shows names c.args.head.cells.now.items c.args.head.root.at)) (λ names. [])) c.in-Ok-true.field-0-test c.in-Ok-true.ensures.found)

pub returns-in-Ok-false-clause-found : goal.returns-in-Ok-false-clause-found
returns-in-Ok-false-clause-found c =
    let old = contents_of c.args.chains.now in
    let now = contents_of c.meet_all.new.chains in
    missed old now (contents_of c.take_back.new.chains) c.args.goal c.args.head.root c.args.head.cells.now.items c.args.head.base c.requires.chains.store c.meet_all.ensures.chains.store
    (subst (Meets old now c.args.head.cells.now.items (λ names. shows names old.cells c.args.goal.at) (λ names. renamed c.args.head.base (shows names c.args.head.cells.now.items c.args.head.root.at)) (λ names. [])) c.in-Ok-false.field-0-test c.in-Ok-false.ensures.found)

pub returns-in-Ok-clause-logged : goal.returns-in-Ok-clause-logged
returns-in-Ok-clause-logged c =
    logs_both c.args.chains.now c.meet_all.new.chains c.len-kept.result c.args.log.now c.log_bindings.new.log c.meet_all.ensures.adds (omega arith) c.in-Ok.ensures.logged

pub returns-in-Ok-false-clause-undone : goal.returns-in-Ok-false-clause-undone
returns-in-Ok-false-clause-undone c = λ _.
    took_back c.args.chains.now c.meet_all.new.chains c.len-kept.result _ c.requires.chains c.meet_all.ensures.adds (omega arith) (omega arith) (omega arith) (contents_of c.take_back.new.chains) c.take_back.ensures.value

pub returns-in-Ok-false-clause-logged : goal.returns-in-Ok-false-clause-logged
returns-in-Ok-false-clause-logged c =
    head_none (contents_of c.args.chains.now) (contents_of c.take_back.new.chains) c.args.log.now c.args.log.now
    (took_back c.args.chains.now c.meet_all.new.chains c.len-kept.result _ c.requires.chains c.meet_all.ensures.adds (omega arith) (omega arith) (omega arith) (contents_of c.take_back.new.chains) c.take_back.ensures.value)
    refl

pub returns-in-Err-clause-undone : goal.returns-in-Err-clause-undone
returns-in-Err-clause-undone c = λ _.
    took_back c.args.chains.now c.meet_all.new.chains c.len-kept.result _ c.requires.chains c.meet_all.ensures.adds (omega arith) (omega arith) (omega arith) (contents_of c.take_back-in-Err.new.chains) c.take_back-in-Err.ensures.value

pub returns-in-Err-clause-logged : goal.returns-in-Err-clause-logged
returns-in-Err-clause-logged c =
    head_none (contents_of c.args.chains.now) (contents_of c.take_back-in-Err.new.chains) c.args.log.now c.args.log.now
    (took_back c.args.chains.now c.meet_all.new.chains c.len-kept.result _ c.requires.chains c.meet_all.ensures.adds (omega arith) (omega arith) (omega arith) (contents_of c.take_back-in-Err.new.chains) c.take_back-in-Err.ensures.value)
    refl

pub returns-in-Err-log_bindings-clause-undone : goal.returns-in-Err-log_bindings-clause-undone
returns-in-Err-log_bindings-clause-undone c = λ _.
    took_back c.args.chains.now c.meet_all.new.chains c.len-kept.result _ c.requires.chains c.meet_all.ensures.adds (omega arith) (omega arith) (omega arith) (contents_of c.take_back-in-Err-log_bindings.new.chains)
    c.take_back-in-Err-log_bindings.ensures.value

pub returns-in-Err-log_bindings-clause-logged : goal.returns-in-Err-log_bindings-clause-logged
returns-in-Err-log_bindings-clause-logged c =
    head_none (contents_of c.args.chains.now) (contents_of c.take_back-in-Err-log_bindings.new.chains) c.args.log.now c.log_bindings.new.log
    (took_back c.args.chains.now c.meet_all.new.chains c.len-kept.result _ c.requires.chains c.meet_all.ensures.adds (omega arith) (omega arith) (omega arith) (contents_of c.take_back-in-Err-log_bindings.new.chains)
    c.take_back-in-Err-log_bindings.ensures.value)
    c.in-Err-log_bindings.ensures.stays
