use Rattle.std.proofs.Common.{Ok, ap, arith}
use Rattle.tp_store.specs.Chain.{contents_of}
use Rattle.tp_store.proofs.Unifier.General.{found_true, found_false, undone_same, AddsPairs-same}
use Rattle.tp_store.proofs.solve.unify.Goals as goal

pub returns-in-Ok-true-clause-found : goal.returns-in-Ok-true-clause-found
returns-in-Ok-true-clause-found c = λ names t.
    found_true c.args.chains.now c.solve.new.chains c.args.left.at c.args.right.at c.requires.chains c.in-Ok-true.ensures.chains (c.in-Ok-true.ensures.yes (ap Ok c.in-Ok-true.field-0-test)) names

pub returns-in-Ok-false-clause-found : goal.returns-in-Ok-false-clause-found
returns-in-Ok-false-clause-found c =
    found_false c.args.chains.now c.solve.new.chains c.args.left.at c.args.right.at c.requires.chains c.in-Ok-false.ensures.chains (c.in-Ok-false.ensures.no (ap Ok c.in-Ok-false.field-0-test))

pub returns-in-Ok-false-clause-undone : goal.returns-in-Ok-false-clause-undone
returns-in-Ok-false-clause-undone c = λ _. undone_same c.args.chains.now c.solve.new.chains (contents_of c.undo_to.new.self) _ c.in-Ok-false.ensures.adds (omega arith) c.undo_to.ensures.value

pub returns-in-Ok-false-clause-adds : goal.returns-in-Ok-false-clause-adds
returns-in-Ok-false-clause-adds c =
    AddsPairs-same (contents_of c.args.chains.now) (contents_of c.undo_to.new.self) (undone_same c.args.chains.now c.solve.new.chains (contents_of c.undo_to.new.self) _ c.in-Ok-false.ensures.adds (omega arith) c.undo_to.ensures.value)

pub returns-in-Err-clause-undone : goal.returns-in-Err-clause-undone
returns-in-Err-clause-undone c = λ _. undone_same c.args.chains.now c.solve.new.chains (contents_of c.undo_to-in-Err.new.self) _ c.in-Err.ensures.adds (omega arith) c.undo_to-in-Err.ensures.value

pub returns-in-Err-clause-adds : goal.returns-in-Err-clause-adds
returns-in-Err-clause-adds c =
    AddsPairs-same (contents_of c.args.chains.now) (contents_of c.undo_to-in-Err.new.self) (undone_same c.args.chains.now c.solve.new.chains (contents_of c.undo_to-in-Err.new.self) _ c.in-Err.ensures.adds (omega arith) c.undo_to-in-Err.ensures.value)
