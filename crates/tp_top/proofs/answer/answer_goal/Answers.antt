use Rattle.std.proofs.Common.{None, length, map, refl, ap, subst, sym, ◌∙◌}
use Rattle.tp_terms.proofs.Naming.Tables.{Grows-length}
use Rattle.tp_terms.proofs.Places.Shown.{AreNamed-longer}
use Rattle.tp_parse.specs.Ops.{table_of}
use Rattle.tp_parse.specs.Texts.{goal_of}
use Rattle.tp_clauses.specs.Model.{cause_of}
use Rattle.tp_engine.proofs.GoalsRead.{goal-fits, read-fits}
use Rattle.tp_top.specs.Expected.{for_goal}
use Rattle.tp_top.specs.Metered.{MayCount}
use Rattle.tp_top.specs.Told.{model_in, request_in}
use Rattle.tp_top.specs.Written.{Writes}
use Rattle.tp_top.proofs.Metering.Counted.{fault_counted, stay_counted}
use Rattle.tp_top.proofs.Running.Expected.{goal_some, if_ok, goal_answered, goal_stopped, told_stop, same_goal_line}
use Rattle.tp_top.proofs.Running.Written.{less_of_none}
use Rattle.tp_top.proofs.answer.answer_goal.Goals as goal

pub answer_read-requires-clause-base : goal.answer_read-requires-clause-base
answer_read-requires-clause-base g c =
    AreNamed-longer (length c.args.loaded.atoms) (length c.read_goal.new.atoms) c.args.loaded.base.now.cells (Grows-length c.args.loaded.atoms c.read_goal.new.atoms c.in-Ok.ensures.grows) c.requires.base

pub answer_read-requires-clause-goal : goal.answer_read-requires-clause-goal
answer_read-requires-clause-goal g c =
    let told = c.in-Ok.ensures.read in
    read-fits c.read_goal.new.atoms c.in-Ok.term told.0 told.2 (goal-fits _ c.args.asked.goal.now told.0 told.1)

pub returns-in-Ok-clause-wrote : goal.returns-in-Ok-clause-wrote
returns-in-Ok-clause-wrote g c =
    let told = c.in-Ok.ensures.read in
    subst (λ a. Writes a (g.W.Sink.faults c.args.sink.now) (g.W.Sink.faults c.answer_read.new.sink) (g.W.Sink.taken c.args.sink.now) (g.W.Sink.taken c.answer_read.new.sink) c.answer_read.result)
    (goal_answered (g.M.Counting.kinds c.args.meters.now) c.args.loaded.atoms c.read_goal.new.atoms c.args.loaded.base.now c.in-Ok.term told.0 (request_in c.args.asked) c.in-Ok.ensures.grows c.requires.base
    (ap (λ ops. goal_of (table_of ops) c.args.asked.goal.now) (sym c.ops.ensures) ∙ told.1) told.2)
    c.answer_read.ensures.wrote

pub returns-in-Err-Refused-clause-wrote : goal.returns-in-Err-Refused-clause-wrote
returns-in-Err-Refused-clause-wrote g c =
    let w = c.in-Err-Refused in
    let m = model_in c.args.loaded.atoms c.args.loaded.base.now in
    c.say_made.ensures.wrote (for_goal (g.M.Counting.kinds c.args.meters.now) m (request_in c.args.asked))
    (if_ok c.goal_refused.result _ _
    (λ reply answered.
    answered ∙ same_goal_line _ w.byte _ (cause_of w.cause) w.byte-is (c.cause_of.ensures ∙ ap cause_of w.cause-is)
    ∙ goal_stopped (g.M.Counting.kinds c.args.meters.now) c.args.loaded.atoms c.args.loaded.base.now (w.byte, w.cause) (request_in c.args.asked)
    (ap (λ ops. goal_of (table_of ops) c.args.asked.goal.now) (sym c.ops.ensures) ∙ told_stop c.read_goal.new.atoms w.field-0 w.byte w.cause _ w.field-0-is w.ensures.read))
    c.goal_refused.ensures)
    (goal_some (g.M.Counting.kinds c.args.meters.now) m (request_in c.args.asked))

pub returns-clause-wrote : goal.returns-clause-wrote
returns-clause-wrote g c =
    (refl, less_of_none _ _ _ refl (goal_some (g.M.Counting.kinds c.args.meters.now) (model_in c.args.loaded.atoms c.args.loaded.base.now) (request_in c.args.asked)))

pub returns-in-Ok-clause-counted : goal.returns-in-Ok-clause-counted
returns-in-Ok-clause-counted g c =
    let told = c.in-Ok.ensures.read in
    subst (λ a. MayCount c.answer_read.result c.args.asked.meters (g.M.Counting.kinds c.args.meters.now) a.2 (g.M.Counting.numbers c.args.meters.now) (g.M.Counting.numbers c.answer_read.new.meters))
    (goal_answered (g.M.Counting.kinds c.args.meters.now) c.args.loaded.atoms c.read_goal.new.atoms c.args.loaded.base.now c.in-Ok.term told.0 (request_in c.args.asked) c.in-Ok.ensures.grows c.requires.base
    (ap (λ ops. goal_of (table_of ops) c.args.asked.goal.now) (sym c.ops.ensures) ∙ told.1) told.2)
    c.answer_read.ensures.counted

pub returns-in-Err-Refused-clause-counted : goal.returns-in-Err-Refused-clause-counted
returns-in-Err-Refused-clause-counted g c =
    let w = c.in-Err-Refused in
    subst (λ a. MayCount c.say_made.result c.args.asked.meters (g.M.Counting.kinds c.args.meters.now) a.2 (g.M.Counting.numbers c.args.meters.now) (g.M.Counting.numbers c.args.meters.now))
    (goal_stopped (g.M.Counting.kinds c.args.meters.now) c.args.loaded.atoms c.args.loaded.base.now (w.byte, w.cause) (request_in c.args.asked)
    (ap (λ ops. goal_of (table_of ops) c.args.asked.goal.now) (sym c.ops.ensures) ∙ told_stop c.read_goal.new.atoms w.field-0 w.byte w.cause _ w.field-0-is w.ensures.read))
    (stay_counted c.say_made.result c.args.asked.meters (g.M.Counting.kinds c.args.meters.now) (g.M.Counting.numbers c.args.meters.now) (g.M.Counting.numbers c.args.meters.now) refl)

pub returns-clause-counted : goal.returns-clause-counted
returns-clause-counted g c =
    fault_counted c.args.asked.meters (g.M.Counting.kinds c.args.meters.now) (for_goal (g.M.Counting.kinds c.args.meters.now) (model_in c.args.loaded.atoms c.args.loaded.base.now) (request_in c.args.asked)).2 (g.M.Counting.numbers c.args.meters.now)
