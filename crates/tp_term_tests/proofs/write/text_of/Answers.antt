use Rattle.tp_terms.proofs.Places.Bound.{Fits-empty}
use Rattle.tp_term_tests.proofs.write.text_of.Goals as goal

pub write_term-requires-clause-fits : goal.write_term-requires-clause-fits
write_term-requires-clause-fits c = Fits-empty c.args.cells.now.items
