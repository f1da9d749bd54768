use Rattle.std.proofs.Common.{map, refl, subst}
use Rattle.tp_top.specs.Metered.{MayCount}
use Rattle.tp_top.specs.Told.{found_in, for_read, model_in, request_in}
use Rattle.tp_top.specs.Written.{Writes}
use Rattle.tp_top.proofs.Metering.Counted.{fault_counted}
use Rattle.tp_top.proofs.Running.Expected.{read_answered, read_some}
use Rattle.tp_top.proofs.Running.Written.{less_of_none}
use Rattle.tp_top.proofs.answer.answer_read.Goals as goal

pub returns-in-Ok-clause-wrote : goal.returns-in-Ok-clause-wrote
returns-in-Ok-clause-wrote g c =
    subst (λ a. Writes a (g.W.Sink.faults c.args.sink.now) (g.W.Sink.faults c.search.new.sink) (g.W.Sink.taken c.args.sink.now) (g.W.Sink.taken c.search.new.sink) c.search.result)
    (read_answered (g.M.Counting.kinds c.args.meters.now) c.args.loaded.atoms c.args.loaded.base.now c.args.goal.now c.in-Ok.engine (request_in c.args.asked) c.in-Ok.ensures.started c.in-Ok.ensures.body)
    c.search.ensures.wrote

pub returns-in-Err-NoMemory-clause-wrote : goal.returns-in-Err-NoMemory-clause-wrote
returns-in-Err-NoMemory-clause-wrote g c =
    (refl, less_of_none _ _ _ refl (read_some (g.M.Counting.kinds c.args.meters.now) (model_in c.args.loaded.atoms c.args.loaded.base.now) (found_in c.args.loaded.atoms c.args.goal.now) (request_in c.args.asked)))

pub returns-in-Ok-clause-counted : goal.returns-in-Ok-clause-counted
returns-in-Ok-clause-counted g c =
    subst (λ a. MayCount c.search.result c.args.asked.meters (g.M.Counting.kinds c.args.meters.now) a.2 (g.M.Counting.numbers c.args.meters.now) (g.M.Counting.numbers c.search.new.meters))
    (read_answered (g.M.Counting.kinds c.args.meters.now) c.args.loaded.atoms c.args.loaded.base.now c.args.goal.now c.in-Ok.engine (request_in c.args.asked) c.in-Ok.ensures.started c.in-Ok.ensures.body)
    c.search.ensures.counted

pub returns-in-Err-NoMemory-clause-counted : goal.returns-in-Err-NoMemory-clause-counted
returns-in-Err-NoMemory-clause-counted g c =
    fault_counted c.args.asked.meters (g.M.Counting.kinds c.args.meters.now) (for_read (g.M.Counting.kinds c.args.meters.now) (model_in c.args.loaded.atoms c.args.loaded.base.now) (found_in c.args.loaded.atoms c.args.goal.now) (request_in c.args.asked)).2 (g.M.Counting.numbers c.args.meters.now)
