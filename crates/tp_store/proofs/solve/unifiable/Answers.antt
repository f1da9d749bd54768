use Rattle.std.proofs.Common.{arith}
use Rattle.tp_store.specs.Chain.{contents_of}
use Rattle.tp_store.proofs.Unifier.General.{found_some, undone_same}
use Rattle.tp_store.proofs.solve.unifiable.Goals as goal

pub returns-clause-found : goal.returns-clause-found
returns-clause-found c = found_some c.args.chains.now c.solve-answer.new.chains c.args.left.at c.args.right.at c.requires.chains c.solve-answer.ensures.chains c.solve-answer.result c.solve-answer.ensures.yes c.solve-answer.ensures.no

pub returns-clause-value : goal.returns-clause-value
returns-clause-value c = undone_same c.args.chains.now c.solve-answer.new.chains (contents_of c.undo_to.new.self) _ c.solve-answer.ensures.adds (omega arith) c.undo_to.ensures.value
