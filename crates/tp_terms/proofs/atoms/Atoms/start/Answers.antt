use Rattle.tp_terms.proofs.Naming.Start.{names-start, table-start}
use Rattle.tp_terms.proofs.atoms.Atoms.start.Goals as goal

pub invariant_of-result : goal.invariant_of-result
invariant_of-result c = (table-start c.new-names.result.keys c.find_or_add_all.new.names.keys c.in_ok-find_or_add_all.ensures.names c.new-names.ensures.empty, c.find_or_add_all.ensures.few)

pub returns-clause-names : goal.returns-clause-names
returns-clause-names c = names-start c.new-names.result.keys c.find_or_add_all.new.names.keys c.in_ok-find_or_add_all.ensures.names c.new-names.ensures.empty

pub returns-clause-table : goal.returns-clause-table
returns-clause-table c = table-start c.new-names.result.keys c.find_or_add_all.new.names.keys c.in_ok-find_or_add_all.ensures.names c.new-names.ensures.empty
