use Rattle.std.proofs.Common.{sym, subst}
use Rattle.tp_terms.specs.declared.symbols.TheConstants.{NOT_LESS_THAN_ZERO, NON_EMPTY_LIST}
use Rattle.tp_build.specs.Errors.{IsWord, domain_word}
use Rattle.tp_build.proofs.Words.{word-not_less_than_zero, word-non_empty_list}
use Rattle.tp_build.proofs.errors.domain_word.Goals as goal

pub returns-in-NotLessThanZero : goal.returns-in-NotLessThanZero
returns-in-NotLessThanZero c = subst (λ w. IsWord NOT_LESS_THAN_ZERO (domain_word w)) (sym c.in-NotLessThanZero.is) word-not_less_than_zero

pub returns-in-NonEmptyList : goal.returns-in-NonEmptyList
returns-in-NonEmptyList c = subst (λ w. IsWord NON_EMPTY_LIST (domain_word w)) (sym c.in-NonEmptyList.is) word-non_empty_list
