use Rattle.tp_terms.proofs.Naming.Tables.{Grows-same}
use Rattle.tp_terms.proofs.Naming.Start.{start-place, start-present}
use Rattle.tp_terms.proofs.Naming.Constants.{start-empty_list, start-braces, start-conjunction}
use Rattle.tp_parse.proofs.build.intern.Goals as goal

pub returns-in-EmptyList-clause-place : goal.returns-in-EmptyList-clause-place
returns-in-EmptyList-clause-place c = rw (c.in-EmptyList.is, c.start_atom.ensures.same) (start-place c.args.atoms.now c.start_atom.ensures.table _ _ start-empty_list)

pub returns-in-EmptyList-clause-names : goal.returns-in-EmptyList-clause-names
returns-in-EmptyList-clause-names c = rw c.in-EmptyList.is (start-present c.args.atoms.now c.start_atom.ensures.table _ _ start-empty_list)

pub returns-in-EmptyList-clause-grows : goal.returns-in-EmptyList-clause-grows
returns-in-EmptyList-clause-grows c = Grows-same _

pub returns-in-Braces-clause-place : goal.returns-in-Braces-clause-place
returns-in-Braces-clause-place c = rw (c.in-Braces.is, c.start_atom-in-Braces.ensures.same) (start-place c.args.atoms.now c.start_atom-in-Braces.ensures.table _ _ start-braces)

pub returns-in-Braces-clause-names : goal.returns-in-Braces-clause-names
returns-in-Braces-clause-names c = rw c.in-Braces.is (start-present c.args.atoms.now c.start_atom-in-Braces.ensures.table _ _ start-braces)

pub returns-in-Braces-clause-grows : goal.returns-in-Braces-clause-grows
returns-in-Braces-clause-grows c = Grows-same _

pub returns-in-Comma-clause-place : goal.returns-in-Comma-clause-place
returns-in-Comma-clause-place c = rw (c.in-Comma.is, c.start_atom-in-Comma.ensures.same) (start-place c.args.atoms.now c.start_atom-in-Comma.ensures.table _ _ start-conjunction)

pub returns-in-Comma-clause-names : goal.returns-in-Comma-clause-names
returns-in-Comma-clause-names c = rw c.in-Comma.is (start-present c.args.atoms.now c.start_atom-in-Comma.ensures.table _ _ start-conjunction)

pub returns-in-Comma-clause-grows : goal.returns-in-Comma-clause-grows
returns-in-Comma-clause-grows c = Grows-same _
