use Rattle.std.proofs.Common.{arith}
use Rattle.tp_store.specs.Chain.{contents_of}
use Rattle.tp_store.proofs.HeadsMeet.Logged.{met_tells, can_take_back, took_back}
use Rattle.tp_store.proofs.head.head_unifiable.Goals as goal

pub take_back-requires-clause-can : goal.take_back-requires-clause-can
take_back-requires-clause-can c = can_take_back c.args.chains.now c.meet_all-answer.new.chains c.len-kept.result _ c.requires.chains c.meet_all-answer.ensures.adds (omega arith) (omega arith) (omega arith)

pub returns-clause-found : goal.returns-clause-found
returns-clause-found c =
    met_tells (contents_of c.args.chains.now) (contents_of c.meet_all-answer.new.chains) c.args.goal c.args.head.root c.args.head.cells.now.items c.args.head.base c.requires.chains.store c.meet_all-answer.ensures.chains.store c.meet_all-answer.result c.meet_all-answer.ensures.found

pub returns-clause-value : goal.returns-clause-value
returns-clause-value c =
    took_back c.args.chains.now c.meet_all-answer.new.chains c.len-kept.result _ c.requires.chains c.meet_all-answer.ensures.adds (omega arith) (omega arith) (omega arith) (contents_of c.take_back.new.chains) c.take_back.ensures.value
