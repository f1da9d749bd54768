-- Arguments as data that a model's value may hold.
use Rattle.std.specs.Prelude.{[], refl}
use Rattle.std.specs.Coded.{Coded, code_by}
use Rattle.tp_terms.specs.Term.{Term, Terms, Comp, args_of}
use Rattle.tp_terms.specs.Code.{term_code}

-- arguments are stored as a compound of them
abbrev pub terms_code : Coded Terms
terms_code = code_by Term term_code (λ ts. Comp [] ts) args_of (λ ts. refl)
