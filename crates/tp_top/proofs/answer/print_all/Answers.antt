use Rattle.std.proofs.Common.{[], None, map, ap, ◌∙◌}
use Rattle.tp_parse.specs.Ops.{table_of}
use Rattle.tp_engine.specs.Ended.{end_of, outcome_of}
use Rattle.tp_engine.specs.Told.{Snapshot}
use Rattle.tp_top.specs.Metered.{printed_kinds}
use Rattle.tp_top.specs.Report.{end_by, last_history, with_last}
use Rattle.tp_top.specs.Replies.{counts_in}
use Rattle.tp_top.proofs.Metering.Counted.{counted_then_any}
use Rattle.tp_top.proofs.Running.Expected.{if_ok, last_some, searched_writes}
use Rattle.tp_top.proofs.answer.print_all.Goals as goal

pub returns-in-Ok-clause-wrote : goal.returns-in-Ok-clause-wrote
returns-in-Ok-clause-wrote g c =
    let ended = c.in-Ok.ended in
    let t = c.print_answers.new.engine in
    let end = end_by (table_of t.seen.ops) (counts_in ended) (end_of t.seen ended.how) in
    searched_writes (printed_kinds c.args.printer.now.metered (g.M.Counting.kinds c.args.printer.now.meters.now))
    c.args.engine.now (outcome_of c.args.engine.now c.args.steps c.args.answers) t ended _ _ _ _ _ _ c.say_made.result
    c.in-Ok.ensures.found c.print_answers.ensures.same c.in-Ok.ensures.wrote.0 c.in-Ok.ensures.wrote.1
    (c.say_made.ensures.wrote (with_last [] ended.steps end None)
    (if_ok c.report-last.result _ _
    (λ reply told. told ∙ ap (λ (view : Snapshot). with_last [] ended.steps (end_by (table_of view.ops) (counts_in ended) (end_of view ended.how)) None) c.view.ensures.view)
    c.report-last.ensures)
    (last_some end.1 ended.steps))

pub returns-in-Ok-clause-counted : goal.returns-in-Ok-clause-counted
returns-in-Ok-clause-counted g c =
    counted_then_any c.say_made.result c.args.printer.now.metered
    (g.M.Counting.kinds c.args.printer.now.meters.now)
    (last_history (outcome_of c.args.engine.now c.args.steps c.args.answers).answers) _ _ c.in-Ok.ensures.counted

pub returns-in-Err-clause-counted : goal.returns-in-Err-clause-counted
returns-in-Err-clause-counted g c = c.in-Err.ensures.counted
