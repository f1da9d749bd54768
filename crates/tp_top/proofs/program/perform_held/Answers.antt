use Rattle.std.proofs.Common.{Err, inl, map, refl, ap, subst, sym, ◌∙◌}
use Rattle.tp_top.specs.Ended.{Ended, Run}
use Rattle.tp_top.specs.Expected.{Answer, for_model}
use Rattle.tp_top.specs.Metered.{MayCount}
use Rattle.tp_top.specs.Told.{request_in}
use Rattle.tp_top.specs.Written.{Writes}
use Rattle.tp_clauses.specs.Model.{model}
use Rattle.tp_top.proofs.Running.Expected.{text_answered}
use Rattle.tp_top.proofs.Running.Parts.{long_written, out_of_memory, part_read, text_written}
use Rattle.tp_top.proofs.program.perform_held.Goals as goal

pub returns-in-Ok-clause-ended : goal.returns-in-Ok-clause-ended
returns-in-Ok-clause-ended g c = λ words is.
    let run : Run = (record {
      held = g.S.Shelf.held c.args.shelf.now;
      words = words;
      reads_before = g.S.Shelf.faults c.args.shelf.now;
      reads_after = g.S.Shelf.faults c.read_all.new.shelf;
      writes_before = g.W.Sink.faults c.args.sink.now;
      writes_after = g.W.Sink.faults c.answer.new.sink;
      taken_before = g.W.Sink.taken c.args.sink.now;
      taken_after = g.W.Sink.taken c.answer.new.sink;
      kinds = g.M.Counting.kinds c.args.meters.now;
      numbers_before = g.M.Counting.numbers c.args.meters.now;
      numbers_after = g.M.Counting.numbers c.answer.new.meters;
    }) in
    let r = request_in c.args.asked in
    let same =
    ap (λ t. for_model run.kinds (model t) r) c.deref.ensures.value
    ∙ text_answered run.kinds c.in-Ok.text.items r (model c.in-Ok.text.items) c.in-Ok.ensures.short refl in
    let answered = subst (λ a. Writes a run.writes_before run.writes_after run.taken_before run.taken_after c.answer.result) same c.answer.ensures.wrote in
    let counted = subst (λ (a : Answer). MayCount c.answer.result c.args.asked.meters run.kinds a.2 run.numbers_before run.numbers_after) same c.answer.ensures.counted in
    subst (Ended run) (sym c.status_of.ensures)
    (text_written run r c.args.name.now c.in-Ok.text.items c.answer.result is c.requires.source c.in-Ok.ensures.all c.in-Ok.ensures.no_fault answered counted)

pub returns-in-Err-TooLong-clause-ended : goal.returns-in-Err-TooLong-clause-ended
returns-in-Err-TooLong-clause-ended g c = λ words is.
    let run : Run = (record {
      held = g.S.Shelf.held c.args.shelf.now;
      words = words;
      reads_before = g.S.Shelf.faults c.args.shelf.now;
      reads_after = g.S.Shelf.faults c.read_all.new.shelf;
      writes_before = g.W.Sink.faults c.args.sink.now;
      writes_after = g.W.Sink.faults c.say-in-Err-TooLong.new.sink;
      taken_before = g.W.Sink.taken c.args.sink.now;
      taken_after = g.W.Sink.taken c.say-in-Err-TooLong.new.sink;
      kinds = g.M.Counting.kinds c.args.meters.now;
      numbers_before = g.M.Counting.numbers c.args.meters.now;
      numbers_after = g.M.Counting.numbers c.args.meters.now;
    }) in
    let said = subst (λ (a : Answer). Writes a run.writes_before run.writes_after run.taken_before run.taken_after c.say-in-Err-TooLong.result) c.too_long.ensures c.say-in-Err-TooLong.ensures.wrote in
    subst (Ended run) (sym c.status_of-in-Err-TooLong.ensures)
    (long_written run (request_in c.args.asked) c.args.name.now c.say-in-Err-TooLong.result is c.requires.source
    (c.in-Err-TooLong.ensures.too_long (ap Err c.in-Err-TooLong.field-0-is)) refl
    c.say-in-Err-TooLong.ensures.fault said)

pub returns-in-Err-NoMemory-clause-ended : goal.returns-in-Err-NoMemory-clause-ended
returns-in-Err-NoMemory-clause-ended g c = λ words is.
    let run : Run = (record {
      held = g.S.Shelf.held c.args.shelf.now;
      words = words;
      reads_before = g.S.Shelf.faults c.args.shelf.now;
      reads_after = g.S.Shelf.faults c.read_all.new.shelf;
      writes_before = g.W.Sink.faults c.args.sink.now;
      writes_after = g.W.Sink.faults c.args.sink.now;
      taken_before = g.W.Sink.taken c.args.sink.now;
      taken_after = g.W.Sink.taken c.args.sink.now;
      kinds = g.M.Counting.kinds c.args.meters.now;
      numbers_before = g.M.Counting.numbers c.args.meters.now;
      numbers_after = g.M.Counting.numbers c.args.meters.now;
    }) in
    let refused = ap Err c.in-Err-NoMemory.field-0-is in
    out_of_memory run
    (inl (part_read run (request_in c.args.asked) c.args.name.now is c.requires.source (c.in-Err-NoMemory.ensures.no_memory refused) (c.in-Err-NoMemory.ensures.no_memory_no_fault refused)))
    refl refl refl
