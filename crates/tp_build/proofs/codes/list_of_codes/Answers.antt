use Rattle.std.proofs.Common.{arith}
use Rattle.tp_build.proofs.RowAnswers.Codes.{codes-none}
use Rattle.tp_build.proofs.codes.list_of_codes.Goals as goal

pub loop-left-init : goal.loop-left-init
loop-left-init g c = record {
  most = omega arith;
  made = codes-none (g.T.Terms.heap c.args.terms.now) c.args.name.now c.requires.heap;
  heap = c.requires.heap;
}
