use Rattle.std.proofs.Common.{arith, lit<}
use Rattle.tp_terms.proofs.Naming.Start.{start-within}
use Rattle.tp_clauses.proofs.load.take_read.Goals as goal

pub prove-unreachable-requires-2 : goal.prove-unreachable-requires-2
prove-unreachable-requires-2 c = omega (arith, start-within c.args.atoms.now c.len-known.ensures.table 102 (lit< tt), c.len-known.ensures.len)
