use Rattle.std.proofs.Common.{sym, ap, ◌∙◌, arith, codes}
use Rattle.tp_terms.specs.declared.symbols.TheConstants.{INT_OVERFLOW, ZERO_DIVISOR, UNDEFINED}
use Rattle.tp_terms.proofs.Naming.Start.{start-within}
use Rattle.tp_arith.specs.Errors.{evaluation_kind}
use Rattle.tp_arith.proofs.Evaluation.Kinds.{evaluation-word, start-int_overflow, start-zero_divisor, start-undefined}
use Rattle.tp_arith.proofs.raising.word_of.Goals as goal

pub returns-in-Overflow-clause-within : goal.returns-in-Overflow-clause-within
returns-in-Overflow-clause-within c names t = start-within names t INT_OVERFLOW.at (omega arith)

pub returns-in-Overflow-clause-kind : goal.returns-in-Overflow-clause-kind
returns-in-Overflow-clause-kind c names t = evaluation-word names t INT_OVERFLOW.at (codes "int_overflow") start-int_overflow ∙ ap evaluation_kind (sym c.in-Overflow.is)

pub returns-in-ZeroDivisor-clause-within : goal.returns-in-ZeroDivisor-clause-within
returns-in-ZeroDivisor-clause-within c names t = start-within names t ZERO_DIVISOR.at (omega arith)

pub returns-in-ZeroDivisor-clause-kind : goal.returns-in-ZeroDivisor-clause-kind
returns-in-ZeroDivisor-clause-kind c names t = evaluation-word names t ZERO_DIVISOR.at (codes "zero_divisor") start-zero_divisor ∙ ap evaluation_kind (sym c.in-ZeroDivisor.is)

pub returns-in-Undefined-clause-within : goal.returns-in-Undefined-clause-within
returns-in-Undefined-clause-within c names t = start-within names t UNDEFINED.at (omega arith)

pub returns-in-Undefined-clause-kind : goal.returns-in-Undefined-clause-kind
returns-in-Undefined-clause-kind c names t = evaluation-word names t UNDEFINED.at (codes "undefined") start-undefined ∙ ap evaluation_kind (sym c.in-Undefined.is)
