use Rattle.std.proofs.Common.{map, refl, subst, ◌∙◌}
use Rattle.tp_clauses.specs.Model.{model, refusal}
use Rattle.tp_top.specs.Expected.{for_model}
use Rattle.tp_top.specs.Metered.{MayCount}
use Rattle.tp_top.specs.Told.{request_in}
use Rattle.tp_top.specs.Written.{Writes}
use Rattle.tp_top.proofs.Metering.Counted.{fault_counted, stay_counted}
use Rattle.tp_top.proofs.Running.Expected.{if_ok, base_answered, base_refused, told_refusal, same_model_line, model_some}
use Rattle.tp_top.proofs.Running.Written.{less_of_none}
use Rattle.tp_top.proofs.answer.answer.Goals as goal

pub returns-in-Ok-load-clause-wrote : goal.returns-in-Ok-load-clause-wrote
returns-in-Ok-load-clause-wrote g c =
    let told = c.in-Ok-load.ensures.model in
    subst (λ a. Writes a (g.W.Sink.faults c.args.sink.now) (g.W.Sink.faults c.answer_goal.new.sink) (g.W.Sink.taken c.args.sink.now) (g.W.Sink.taken c.answer_goal.new.sink) c.answer_goal.result)
    (base_answered (g.M.Counting.kinds c.args.meters.now) c.args.text.now (request_in c.args.asked) c.load.new.atoms c.in-Ok-load.base told.0 told.1 told.2)
    c.answer_goal.ensures.wrote

pub returns-in-Err-Refused-clause-wrote : goal.returns-in-Err-Refused-clause-wrote
returns-in-Err-Refused-clause-wrote g c =
    let w = c.in-Err-Refused in
    c.say_made.ensures.wrote (for_model (g.M.Counting.kinds c.args.meters.now) (model c.args.text.now) (request_in c.args.asked))
    (if_ok c.model_refused.result _ _
    (λ reply answered.
    answered ∙ same_model_line _ w.clause _ w.byte _ w.cause w.clause-is w.byte-is w.cause-is
    ∙ base_refused (g.M.Counting.kinds c.args.meters.now) c.args.text.now (request_in c.args.asked) (refusal w.clause w.byte w.cause) (told_refusal c.load.new.atoms w.field-0 w.clause w.byte w.cause _ w.field-0-is w.ensures.model))
    c.model_refused.ensures)
    (model_some (g.M.Counting.kinds c.args.meters.now) (model c.args.text.now) (request_in c.args.asked))

pub returns-clause-wrote : goal.returns-clause-wrote
returns-clause-wrote g c =
    (refl, less_of_none _ _ _ refl (model_some (g.M.Counting.kinds c.args.meters.now) (model c.args.text.now) (request_in c.args.asked)))

pub returns-in_default-clause-wrote : goal.returns-in_default-clause-wrote
returns-in_default-clause-wrote g c =
    (refl, less_of_none _ _ _ refl (model_some (g.M.Counting.kinds c.args.meters.now) (model c.args.text.now) (request_in c.args.asked)))

pub returns-in-Ok-load-clause-counted : goal.returns-in-Ok-load-clause-counted
returns-in-Ok-load-clause-counted g c =
    let told = c.in-Ok-load.ensures.model in
    subst (λ a. MayCount c.answer_goal.result c.args.asked.meters (g.M.Counting.kinds c.args.meters.now) a.2 (g.M.Counting.numbers c.args.meters.now) (g.M.Counting.numbers c.answer_goal.new.meters))
    (base_answered (g.M.Counting.kinds c.args.meters.now) c.args.text.now (request_in c.args.asked) c.load.new.atoms c.in-Ok-load.base told.0 told.1 told.2)
    c.answer_goal.ensures.counted

pub returns-in-Err-Refused-clause-counted : goal.returns-in-Err-Refused-clause-counted
returns-in-Err-Refused-clause-counted g c =
    let w = c.in-Err-Refused in
    subst (λ a. MayCount c.say_made.result c.args.asked.meters (g.M.Counting.kinds c.args.meters.now) a.2 (g.M.Counting.numbers c.args.meters.now) (g.M.Counting.numbers c.args.meters.now))
    (base_refused (g.M.Counting.kinds c.args.meters.now) c.args.text.now (request_in c.args.asked) (refusal w.clause w.byte w.cause) (told_refusal c.load.new.atoms w.field-0 w.clause w.byte w.cause _ w.field-0-is w.ensures.model))
    (stay_counted c.say_made.result c.args.asked.meters (g.M.Counting.kinds c.args.meters.now) (g.M.Counting.numbers c.args.meters.now) (g.M.Counting.numbers c.args.meters.now) refl)

pub returns-clause-counted : goal.returns-clause-counted
returns-clause-counted g c =
    fault_counted c.args.asked.meters (g.M.Counting.kinds c.args.meters.now) (for_model (g.M.Counting.kinds c.args.meters.now) (model c.args.text.now) (request_in c.args.asked)).2 (g.M.Counting.numbers c.args.meters.now)

pub returns-in_default-clause-counted : goal.returns-in_default-clause-counted
returns-in_default-clause-counted g c =
    fault_counted c.args.asked.meters (g.M.Counting.kinds c.args.meters.now) (for_model (g.M.Counting.kinds c.args.meters.now) (model c.args.text.now) (request_in c.args.asked)).2 (g.M.Counting.numbers c.args.meters.now)
