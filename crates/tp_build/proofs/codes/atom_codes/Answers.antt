use Rattle.tp_meaning.specs.Heap.{seen}
use Rattle.tp_build.proofs.RowAnswers.Codes.{codes-variable}
use Rattle.tp_build.proofs.codes.atom_codes.Goals as goal

pub returns-in-Var-clause-does : goal.returns-in-Var-clause-does
returns-in-Var-clause-does g c =
    let h = g.T.Terms.heap c.args.terms.now in
    codes-variable h (g.T.Terms.heap c.atom_of_codes.new.terms) c.args.atom.at c.in-Var.field-0 c.look-cell.result (seen h c.args.list.at) c.atom_of_codes.result c.in-Var.is c.look-cell.ensures.top c.atom_of_codes.ensures.does
