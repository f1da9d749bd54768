use Rattle.std.proofs.Common.{Err, inl, map, refl, ap, subst, sym, ◌∙◌}
use Rattle.tp_clauses.specs.Model.{model}
use Rattle.tp_top.specs.Ended.{Ended, Run}
use Rattle.tp_top.specs.Expected.{Answer, for_model}
use Rattle.tp_top.specs.Metered.{MayCount}
use Rattle.tp_top.specs.Told.{request_in}
use Rattle.tp_top.specs.Written.{Writes}
use Rattle.tp_top.proofs.Running.Expected.{sample_answered}
use Rattle.tp_top.proofs.Running.Parts.{made_there, out_of_memory, sample_written}
use Rattle.tp_top.proofs.program.perform_sample.Goals as goal

pub returns-in-Ok-clause-ended : goal.returns-in-Ok-clause-ended
returns-in-Ok-clause-ended g c = λ words held reads is.
    let run : Run = (record {
      held = held;
      words = words;
      reads_before = reads;
      reads_after = reads;
      writes_before = g.W.Sink.faults c.args.sink.now;
      writes_after = g.W.Sink.faults c.answer.new.sink;
      taken_before = g.W.Sink.taken c.args.sink.now;
      taken_after = g.W.Sink.taken c.answer.new.sink;
      kinds = g.M.Counting.kinds c.args.meters.now;
      numbers_before = g.M.Counting.numbers c.args.meters.now;
      numbers_after = g.M.Counting.numbers c.answer.new.meters;
    }) in
    let r = request_in c.args.asked in
    let same = sample_answered run.kinds _ c.args.n r (c.as_bytes.ensures.value ∙ c.in-Ok.ensures) in
    let answered = subst (λ a. Writes a run.writes_before run.writes_after run.taken_before run.taken_after c.answer.result) same c.answer.ensures.wrote in
    let counted = subst (λ (a : Answer). MayCount c.answer.result c.args.asked.meters run.kinds a.2 run.numbers_before run.numbers_after) same c.answer.ensures.counted in
    subst (Ended run) (sym c.status_of.ensures)
    (sample_written run r c.args.n c.answer.result is c.requires.source refl answered counted)

pub returns-in-Err-clause-ended : goal.returns-in-Err-clause-ended
returns-in-Err-clause-ended g c = λ words held reads is.
    let run : Run = (record {
      held = held;
      words = words;
      reads_before = reads;
      reads_after = reads;
      writes_before = g.W.Sink.faults c.args.sink.now;
      writes_after = g.W.Sink.faults c.args.sink.now;
      taken_before = g.W.Sink.taken c.args.sink.now;
      taken_after = g.W.Sink.taken c.args.sink.now;
      kinds = g.M.Counting.kinds c.args.meters.now;
      numbers_before = g.M.Counting.numbers c.args.meters.now;
      numbers_after = g.M.Counting.numbers c.args.meters.now;
    }) in
    out_of_memory run (inl (made_there run (request_in c.args.asked) c.args.n is c.requires.source refl)) refl refl refl
