use Rattle.std.proofs.Common.{sym, subst}
use Rattle.tp_terms.specs.declared.cells.Cell.TheVariants as cell
use Rattle.tp_terms.specs.declared.symbols.TheConstants.{INSTANTIATION_ERROR, TYPE_ERROR, DOMAIN_ERROR, REPRESENTATION_ERROR}
use Rattle.tp_meaning.specs.Heap.{Makes, cell_shown}
use Rattle.tp_build.specs.Errors.{fault_term, type_word, domain_word, limit_word}
use Rattle.tp_build.proofs.Words.{word-within, word-stands, unbound-made, type-made, domain-made, representation-made, word-type_error, word-domain_error, word-representation_error}
use Rattle.tp_build.proofs.errors.kind_of.Goals as goal

pub compound_of_two-requires-clause-name : goal.compound_of_two-requires-clause-name
compound_of_two-requires-clause-name g c = word-within (g.T.Terms.heap c.args.terms.now) c.requires.heap TYPE_ERROR "type_error" word-type_error

pub compound_of_two-requires-clause-left : goal.compound_of_two-requires-clause-left
compound_of_two-requires-clause-left g c = word-stands (g.T.Terms.heap c.args.terms.now) c.requires.heap c.type_word.result (type_word c.in-Type.wanted) c.type_word.ensures

pub compound_of_two-requires-in-Domain-clause-name : goal.compound_of_two-requires-in-Domain-clause-name
compound_of_two-requires-in-Domain-clause-name g c = word-within (g.T.Terms.heap c.args.terms.now) c.requires.heap DOMAIN_ERROR "domain_error" word-domain_error

pub compound_of_two-requires-in-Domain-clause-left : goal.compound_of_two-requires-in-Domain-clause-left
compound_of_two-requires-in-Domain-clause-left g c = word-stands (g.T.Terms.heap c.args.terms.now) c.requires.heap c.domain_word.result (domain_word c.in-Domain.wanted) c.domain_word.ensures

pub compound_of_one-requires-clause-name : goal.compound_of_one-requires-clause-name
compound_of_one-requires-clause-name g c = word-within (g.T.Terms.heap c.args.terms.now) c.requires.heap REPRESENTATION_ERROR "representation_error" word-representation_error

pub compound_of_one-requires-clause-argument : goal.compound_of_one-requires-clause-argument
compound_of_one-requires-clause-argument g c = word-stands (g.T.Terms.heap c.args.terms.now) c.requires.heap c.limit_word.result (limit_word c.in-Representation.limit) c.limit_word.ensures

pub returns-in-Unbound-clause-made : goal.returns-in-Unbound-clause-made
returns-in-Unbound-clause-made g c =
    let h = g.T.Terms.heap c.args.terms.now in
    subst (λ f. Makes h h (cell.Atom INSTANTIATION_ERROR) (fault_term (cell_shown h) f)) (sym c.in-Unbound.is) (unbound-made h c.requires.heap)

pub returns-in-Type-clause-made : goal.returns-in-Type-clause-made
returns-in-Type-clause-made g c =
    type-made (g.T.Terms.heap c.args.terms.now) (g.T.Terms.heap c.compound_of_two.new.terms) c.args.fault c.in-Type.wanted c.in-Type.culprit c.type_word.result c.compound_of_two.result c.in-Type.is c.requires.heap c.type_word.ensures c.compound_of_two.ensures.made

pub returns-in-Domain-clause-made : goal.returns-in-Domain-clause-made
returns-in-Domain-clause-made g c =
    domain-made (g.T.Terms.heap c.args.terms.now) (g.T.Terms.heap c.compound_of_two-in-Domain.new.terms) c.args.fault c.in-Domain.wanted c.in-Domain.culprit c.domain_word.result c.compound_of_two-in-Domain.result c.in-Domain.is c.requires.heap c.domain_word.ensures c.compound_of_two-in-Domain.ensures.made

pub returns-in-Representation-clause-made : goal.returns-in-Representation-clause-made
returns-in-Representation-clause-made g c =
    representation-made (g.T.Terms.heap c.args.terms.now) (g.T.Terms.heap c.compound_of_one.new.terms) c.args.fault c.in-Representation.limit c.limit_word.result c.compound_of_one.result c.in-Representation.is c.requires.heap c.limit_word.ensures c.compound_of_one.ensures.made
