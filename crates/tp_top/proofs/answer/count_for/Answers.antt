use Rattle.std.proofs.Common.{map, length, refl, sym, ap, subst, ◌∙◌}
use Rattle.tp_parse.specs.Ops.{table_of}
use Rattle.tp_engine.specs.Ended.{answers_of, end_of, outcome_of}
use Rattle.tp_engine.specs.Told.{Snapshot}
use Rattle.tp_top.specs.Replies.{counts_in}
use Rattle.tp_top.specs.Report.{end_by}
use Rattle.tp_top.specs.Sample.{events_of, sample_line, with_line}
use Rattle.tp_top.specs.Told.{sample_in}
use Rattle.tp_top.proofs.Running.Expected.{counted_is, counts_some, if_ok, tallied}
use Rattle.tp_top.proofs.Running.Written.{last-numbered, less_of_none}
use Rattle.tp_top.proofs.answer.count_for.Goals as goal

pub returns-in-Ok-clause-wrote : goal.returns-in-Ok-clause-wrote
returns-in-Ok-clause-wrote g c =
    let ended = c.in-Ok.ended in
    let old = c.args.engine.now in
    let t = c.run_to_end.new.self in
    let steps = c.args.asked.steps in
    let answers = c.args.asked.answers in
    let o = outcome_of old steps answers in
    let tally = c.run_to_end.new.answers in
    let events = tallied (λ x. x.events) (answers_of old steps answers) _ tally c.in-Ok.ensures.took refl
    ∙ ap events_of (last-numbered old.seen.named old.seen.ops 0 o.answers) in
    c.say_made.ensures.wrote (sample_in c.args.n old steps answers)
    (if_ok c.sample_report-made.result _ _
    (λ reply told.
    told ∙ ap (λ (view : Snapshot). with_line (sample_line c.args.n c.args.clauses ended.found tally.events) ended.steps (end_by (table_of view.ops) (counts_in ended) (end_of view ended.how))) c.view.ensures.view
    ∙ counted_is c.args.n c.args.clauses tally.events old o t ended c.in-Ok.ensures.found c.run_to_end.ensures.same c.requires.clauses events)
    c.sample_report-made.ensures)
    (counts_some (table_of old.seen.ops) c.args.n (length old.base) o)

pub returns-in-Err-clause-wrote : goal.returns-in-Err-clause-wrote
returns-in-Err-clause-wrote g c =
    let old = c.args.engine.now in
    (refl, less_of_none _ _ _ refl (counts_some (table_of old.seen.ops) c.args.n (length old.base) (outcome_of old c.args.asked.steps c.args.asked.answers)))
