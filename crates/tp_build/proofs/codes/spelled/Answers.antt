use Rattle.std.proofs.Common.{map, arith}
use Rattle.tp_build.specs.Codes.{all_characters}
use Rattle.tp_build.specs.Lists.{place_seen}
use Rattle.tp_build.proofs.RowAnswers.Codes.{spelled-none}
use Rattle.tp_build.proofs.codes.spelled.Goals as goal

pub loop-read-init : goal.loop-read-init
loop-read-init g c = record {
  most = omega arith;
  spelled = spelled-none (all_characters (map (place_seen (g.T.Terms.heap c.args.terms.now)) c.args.places.now)) c.new-text.result c.new-text.ensures.bytes;
}
