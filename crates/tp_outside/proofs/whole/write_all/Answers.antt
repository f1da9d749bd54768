use Rattle.std.proofs.Common.{◌∙◌, length, arith, length-drop, ap}
use Rattle.std.proofs.lemmas.List.{take_rest}
use Rattle.tp_outside.proofs.WritesWhole.Pieces.{added-more}
use Rattle.tp_outside.proofs.whole.write_all.Goals as goal

pub loop-done-preserved : goal.loop-done-preserved
loop-done-preserved g c = record {
  within = omega (arith, c.in-Ok.ensures.bound, ap length (take_rest c.args.bytes.now c.loop-done.done), length-drop c.loop-done.done c.args.bytes.now);
  taken = added-more (g.W.Sink.taken c.args.sink.now) (g.W.Sink.taken c.loop-done.sink) (g.W.Sink.taken c.write.new.self) c.args.bytes.now c.loop-done.done c.in-Ok.count c.loop-done.invariant.taken c.in-Ok.ensures.added;
  count = c.in-Ok.ensures.no_fault ∙ c.loop-done.invariant.count;
}
