use Rattle.std.proofs.Common.{map, subst}
use Rattle.tp_engine.specs.Ended.{outcome_of}
use Rattle.tp_top.specs.Metered.{MayCount}
use Rattle.tp_top.specs.Written.{writing}
use Rattle.tp_top.proofs.Running.Expected.{search_printed}
use Rattle.tp_top.proofs.Running.Written.{last-numbered}
use Rattle.tp_top.proofs.answer.print_answers.Goals as goal

pub returns-clause-same_sink : goal.returns-clause-same_sink
returns-clause-same_sink g c =
    let printed =
    search_printed c.run_to_end.result c.args.printer.now c.run_to_end.new.answers
    (λ p. p.sink.ghost_name) (λ p. p.meters.ghost_name)
    (λ p. writing (g.W.Sink.faults p.sink.now) (g.W.Sink.taken p.sink.now) p.metered
    (g.M.Counting.kinds p.meters.now)
    (g.M.Counting.numbers p.meters.now))
    c.args.engine.now c.args.steps c.args.answers
    c.run_to_end.ensures.took c.run_to_end.ensures.cut c.run_to_end.ensures.write in
    printed.0

pub returns-clause-same_meters : goal.returns-clause-same_meters
returns-clause-same_meters g c =
    let printed =
    search_printed c.run_to_end.result c.args.printer.now c.run_to_end.new.answers
    (λ p. p.sink.ghost_name) (λ p. p.meters.ghost_name)
    (λ p. writing (g.W.Sink.faults p.sink.now) (g.W.Sink.taken p.sink.now) p.metered
    (g.M.Counting.kinds p.meters.now)
    (g.M.Counting.numbers p.meters.now))
    c.args.engine.now c.args.steps c.args.answers
    c.run_to_end.ensures.took c.run_to_end.ensures.cut c.run_to_end.ensures.write in
    printed.1

pub returns-clause-wrote : goal.returns-clause-wrote
returns-clause-wrote g c =
    let printed =
    search_printed c.run_to_end.result c.args.printer.now c.run_to_end.new.answers
    (λ p. p.sink.ghost_name) (λ p. p.meters.ghost_name)
    (λ p. writing (g.W.Sink.faults p.sink.now) (g.W.Sink.taken p.sink.now) p.metered
    (g.M.Counting.kinds p.meters.now)
    (g.M.Counting.numbers p.meters.now))
    c.args.engine.now c.args.steps c.args.answers
    c.run_to_end.ensures.took c.run_to_end.ensures.cut c.run_to_end.ensures.write in
    printed.2.wrote

pub returns-clause-cut : goal.returns-clause-cut
returns-clause-cut g c =
    let printed =
    search_printed c.run_to_end.result c.args.printer.now c.run_to_end.new.answers
    (λ p. p.sink.ghost_name) (λ p. p.meters.ghost_name)
    (λ p. writing (g.W.Sink.faults p.sink.now) (g.W.Sink.taken p.sink.now) p.metered
    (g.M.Counting.kinds p.meters.now)
    (g.M.Counting.numbers p.meters.now))
    c.args.engine.now c.args.steps c.args.answers
    c.run_to_end.ensures.took c.run_to_end.ensures.cut c.run_to_end.ensures.write in
    printed.2.cut

pub returns-clause-kinds : goal.returns-clause-kinds
returns-clause-kinds g c =
    let printed =
    search_printed c.run_to_end.result c.args.printer.now c.run_to_end.new.answers
    (λ p. p.sink.ghost_name) (λ p. p.meters.ghost_name)
    (λ p. writing (g.W.Sink.faults p.sink.now) (g.W.Sink.taken p.sink.now) p.metered
    (g.M.Counting.kinds p.meters.now)
    (g.M.Counting.numbers p.meters.now))
    c.args.engine.now c.args.steps c.args.answers
    c.run_to_end.ensures.took c.run_to_end.ensures.cut c.run_to_end.ensures.write in
    printed.2.kinds

pub returns-clause-counted : goal.returns-clause-counted
returns-clause-counted g c =
    let printed =
    search_printed c.run_to_end.result c.args.printer.now c.run_to_end.new.answers
    (λ p. p.sink.ghost_name) (λ p. p.meters.ghost_name)
    (λ p. writing (g.W.Sink.faults p.sink.now) (g.W.Sink.taken p.sink.now) p.metered
    (g.M.Counting.kinds p.meters.now)
    (g.M.Counting.numbers p.meters.now))
    c.args.engine.now c.args.steps c.args.answers
    c.run_to_end.ensures.took c.run_to_end.ensures.cut c.run_to_end.ensures.write in
    let t = c.args.engine.now in
    subst
    (λ last. MayCount c.run_to_end.result c.args.printer.now.metered
    (g.M.Counting.kinds c.args.printer.now.meters.now) last
    (g.M.Counting.numbers c.args.printer.now.meters.now)
    (g.M.Counting.numbers c.run_to_end.new.answers.meters.now))
    (last-numbered t.seen.named t.seen.ops 0 (outcome_of t c.args.steps c.args.answers).answers)
    printed.2.counted
