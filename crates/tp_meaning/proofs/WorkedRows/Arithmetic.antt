-- Worked rows of arithmetic, computed.
use Rattle.std.proofs.Common.{◌≡◌, [], ◌∷◌, Ok, Err, refl, pos, negsuc, codes}
use Prim.Native.String.{String}
use Rattle.tp_terms.specs.Term.{Term, Var, Int, atom, comp, nat}
use Rattle.tp_meaning.specs.Checks.{unbound, evaluation_error}
use Rattle.tp_meaning.specs.Arith.{operations, operations_of, evaluated, value, not_evaluable}

-- what the rows compute by
unfoldable computed : Unit {0}
unfolding operations operations_of evaluated
computed = tt

abbrev two : String → Term → Term → Term
two name x y = comp name (x ∷ y ∷ [])

-- -2 and the least number of 64 bits
abbrev minus_two : Term
minus_two = Int (negsuc 1)

abbrev least_number : Term
least_number = Int (negsuc 9223372036854775807)

quotient_rounds_toward_zero : value [] (two "//" (nat 7) minus_two) ≡ Ok (negsuc 2)
unfolding computed
quotient_rounds_toward_zero = refl

div_rounds_down : value [] (two "div" (nat 7) minus_two) ≡ Ok (negsuc 3)
unfolding computed
div_rounds_down = refl

rem_has_the_sign_of_the_dividend : value [] (two "rem" (nat 7) minus_two) ≡ Ok (pos 1)
unfolding computed
rem_has_the_sign_of_the_dividend = refl

mod_has_the_sign_of_the_divisor : value [] (two "mod" (nat 7) minus_two) ≡ Ok (negsuc 0)
unfolding computed
mod_has_the_sign_of_the_divisor = refl

rem_of_the_least : value [] (two "rem" least_number (Int (negsuc 0))) ≡ Ok (pos 0)
unfolding computed
rem_of_the_least = refl

quotient_of_the_least : value [] (two "//" least_number (Int (negsuc 0))) ≡ Err (evaluation_error "int_overflow")
unfolding computed
quotient_of_the_least = refl

shift_overflows : value [] (two "<<" (nat 1) (nat 63)) ≡ Err (evaluation_error "int_overflow")
unfolding computed
shift_overflows = refl

shift_to_the_least : value [] (two "<<" (Int (negsuc 0)) (nat 63)) ≡ Ok (negsuc 9223372036854775807)
unfolding computed
shift_to_the_least = refl

shift_too_far : value [] (two "<<" (nat 1) (nat 64)) ≡ Err (evaluation_error "undefined")
unfolding computed
shift_too_far = refl

shift_back : value [] (two ">>" minus_two (nat 63)) ≡ Ok (negsuc 0)
unfolding computed
shift_back = refl

bits_of_a_negative_number : value [] (two "/\\" minus_two (nat 7)) ≡ Ok (pos 6)
unfolding computed
bits_of_a_negative_number = refl

atom_is_no_number : value [] (atom "foo") ≡ Err (not_evaluable (codes "foo") 0)
unfolding computed
atom_is_no_number = refl

-- the operation of a name is looked for before its arguments are evaluated
unknown_comes_first : value [] (two "/" (Var 0) (Var 0)) ≡ Err (not_evaluable (codes "/") 2)
unfolding computed
unknown_comes_first = refl

-- the left argument's error comes first, and a result too large is one, whatever is done with it
inner_result_overflows : value [] (two "-" (two "+" (nat 9223372036854775807) (nat 1)) (Var 0)) ≡ Err (evaluation_error "int_overflow")
unfolding computed
inner_result_overflows = refl

-- 1 - _0 where _0 is bound to - 4
bound_variable : value ((0, nat 4) ∷ []) (two "-" (nat 1) (comp "-" (Var 0 ∷ []))) ≡ Ok (pos 5)
unfolding computed
bound_variable = refl

unbound_variable : value [] (two "+" (nat 1) (Var 0)) ≡ Err unbound
unfolding computed
unbound_variable = refl
