-- Rows of single definitions, computed.
use Rattle.std.proofs.Common.{◌≡◌, [], ◌∷◌, Some, None, refl}
use Rattle.std.specs.declared.cmp.Ordering.TheVariants.{Less}
use Rattle.tp_terms.specs.Term.{Var, atom, comp, nat}
use Rattle.tp_meaning.specs.Order.{term_cmp}
use Rattle.tp_meaning.specs.Body.{body}

atom_before_compound : term_cmp (atom "z") (comp "f" (atom "a" ∷ [])) ≡ Less
atom_before_compound = refl

name_before_name : term_cmp (comp "f" (atom "b" ∷ [])) (comp "g" (atom "a" ∷ [])) ≡ Less
name_before_name = refl

fewer_before_more : term_cmp (comp "g" (atom "a" ∷ [])) (comp "f" (atom "a" ∷ atom "a" ∷ [])) ≡ Less
fewer_before_more = refl

no_body : body (comp "," (Var 0 ∷ nat 1 ∷ [])) ≡ None
no_body = refl

variable_body : body (Var 0) ≡ Some (comp "call" (Var 0 ∷ []))
variable_body = refl
