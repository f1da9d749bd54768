use Rattle.std.proofs.Common.{sym, subst}
use Rattle.tp_terms.specs.declared.symbols.TheConstants.{INTEGER, ATOM, ATOMIC, COMPOUND, LIST}
use Rattle.tp_build.specs.Errors.{IsWord, type_word}
use Rattle.tp_build.proofs.Words.{word-integer, word-atom, word-atomic, word-compound, word-list}
use Rattle.tp_build.proofs.errors.type_word.Goals as goal

pub returns-in-Integer : goal.returns-in-Integer
returns-in-Integer c = subst (λ w. IsWord INTEGER (type_word w)) (sym c.in-Integer.is) word-integer

pub returns-in-Atom : goal.returns-in-Atom
returns-in-Atom c = subst (λ w. IsWord ATOM (type_word w)) (sym c.in-Atom.is) word-atom

pub returns-in-Atomic : goal.returns-in-Atomic
returns-in-Atomic c = subst (λ w. IsWord ATOMIC (type_word w)) (sym c.in-Atomic.is) word-atomic

pub returns-in-Compound : goal.returns-in-Compound
returns-in-Compound c = subst (λ w. IsWord COMPOUND (type_word w)) (sym c.in-Compound.is) word-compound

pub returns-in-List : goal.returns-in-List
returns-in-List c = subst (λ w. IsWord LIST (type_word w)) (sym c.in-List.is) word-list
