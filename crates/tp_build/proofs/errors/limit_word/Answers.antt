use Rattle.std.proofs.Common.{sym, subst}
use Rattle.tp_terms.specs.declared.symbols.TheConstants.{MAX_ARITY, CHARACTER_CODE}
use Rattle.tp_build.specs.Errors.{IsWord, limit_word}
use Rattle.tp_build.proofs.Words.{word-max_arity, word-character_code}
use Rattle.tp_build.proofs.errors.limit_word.Goals as goal

pub returns-in-MaxArity : goal.returns-in-MaxArity
returns-in-MaxArity c = subst (λ w. IsWord MAX_ARITY (limit_word w)) (sym c.in-MaxArity.is) word-max_arity

pub returns-in-CharacterCode : goal.returns-in-CharacterCode
returns-in-CharacterCode c = subst (λ w. IsWord CHARACTER_CODE (limit_word w)) (sym c.in-CharacterCode.is) word-character_code
