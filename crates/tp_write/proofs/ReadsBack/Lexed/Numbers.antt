-- The characters of variables and integers are lexed as their tokens.
use Rattle.std.proofs.Common.{◌≡◌, ℕ, zero, suc, ◌+◌, ◌*◌, ◌^◌, ◌<◌, ◌≤◌, Bool, true, false, not, ◌&&◌, ◌||◌, ◌==◌, nat_le, List, [], ◌∷◌, ◌++◌, length, get_or, Some, Ok, refl, sym, ap, ◌∙◌, arith, decimal}
use Rattle.std.specs.List.{list_all}
use Rattle.std.specs.Str.{all_scalars}
use Rattle.std.specs.Str.Parse.{AllDigits, digits_value_after, digits_value}
use Rattle.std.specs.Char.{is_digit, digit_value, is_ascii_alphabetic, is_ascii_alphanumeric}
use lib.Utf8.{scalar}
use Rattle.std.proofs.Math.Utf8.{low_scalar}
use Rattle.std.proofs.lemmas.Bool.{lt-ltb, le-leb, not-false, and_from, agree_below, agree_below_at, ne_eqb}
use Rattle.std.proofs.lemmas.Fmt.{decimal_is_IsNumeral, decimal_digit, first_decimal}
use Rattle.tp_lex.proofs.Characters.Ascii.{continuing-ascii}
use Rattle.tp_lex.specs.Characters.{is_graphic, is_name_start, is_variable_start, is_in_class}
use Rattle.tp_lex.specs.declared.chars.Class.TheVariants.{Continuing}
use Rattle.tp_lex.specs.Digits.{after_digits, value_with}
use Rattle.tp_lex.specs.Integers.{after_zero, integer}
use Rattle.tp_lex.specs.Form.{largest, form, name_of, value_of, number_value, integer_form}
use Rattle.tp_lex.specs.declared.token.TokenKind.TheVariants as kind
use Rattle.tp_lex.proofs.Forms.Numerals.{pair_of, same_pair}
use Rattle.tp_write.proofs.ReadsBack.Pieces.{Stand, Piece, variable, number}
use Rattle.tp_write.proofs.ReadsBack.Lexed.Characters.{begins_calm, calm_of, run_ends, begins_gap, no_gap, no_name_start}
use Rattle.tp_write.proofs.ReadsBack.Lexed.Words.{Forms, form_variable, form_digit, variable_spelled}

-- ---- digits

pub record IsDigit (c : ℕ) : Type 0 where
  pub digit : is_digit c 10 ≡ true
  pub continuing : is_in_class Continuing c ≡ true
  pub name : is_name_start c ≡ false
  pub variable : is_variable_start c ≡ false
  pub graphic : is_graphic c ≡ false
  pub gap : begins_gap c ≡ false
  pub character : scalar c ≡ true

digit_below : (c : ℕ) → digit_value c < 10 → (48 ≤ c) × (c < 58)
digit_below c l = grind arith

-- no digit passes a test
denied : (test : ℕ → Bool) (c : ℕ) → agree_below (λ x. is_digit x 10 && test x) (λ x. false) 128 ≡ true → c < 128 → is_digit c 10 ≡ true → test c ≡ false
denied test c all low d = ap (λ b. b && test c) (sym d) ∙ agree_below_at (λ x. is_digit x 10 && test x) (λ x. false) 128 c all low

-- each digit passes a test
implied : (test : ℕ → Bool) (c : ℕ) → agree_below (λ x. is_digit x 10 && not (test x)) (λ x. false) 128 ≡ true → c < 128 → is_digit c 10 ≡ true → test c ≡ true
implied test c all low d = not-false (test c) (denied (λ x. not (test x)) c all low d)

pub digit_of : (c : ℕ) → digit_value c < 10 → IsDigit c
digit_of c l =
    let r = digit_below c l in
    let low : c < 128 = omega arith in
    let d : is_digit c 10 ≡ true = lt-ltb (digit_value c) 10 l in
    record {
      digit = d;
      continuing = continuing-ascii c low ∙ implied (λ x. is_ascii_alphanumeric x || (x == 95)) c refl low d;
      name = no_name_start c (lt-ltb c 128 low) (denied is_ascii_alphabetic c refl low d);
      variable = denied is_variable_start c refl low d;
      graphic = denied is_graphic c refl low d;
      gap = denied begins_gap c refl low d;
      character = low_scalar c (omega arith);
    }

pub digits_continue : (ds : List ℕ) → AllDigits 10 ds → list_all (is_in_class Continuing) ds ≡ true
digits_continue [] a = refl
digits_continue (d ∷ ds) a = and_from (is_in_class Continuing d) (list_all (is_in_class Continuing) ds) (digit_of d a.0).continuing (digits_continue ds a.1)

pub digits_scalars : (ds : List ℕ) → AllDigits 10 ds → all_scalars ds ≡ true
digits_scalars [] a = refl
digits_scalars (d ∷ ds) a = and_from (scalar d) (all_scalars ds) (digit_of d a.0).character (digits_scalars ds a.1)

pub decimal_digits : (n : ℕ) → n < 2 ^ 64 → AllDigits 10 (decimal n)
decimal_digits n l = (decimal_is_IsNumeral n l).0.1

-- digits are characters
pub decimal_scalars : (n : ℕ) → n < 2 ^ 64 → all_scalars (decimal n) ≡ true
decimal_scalars n l = digits_scalars (decimal n) (decimal_digits n l)

-- ---- variables

-- a variable's characters are lexed as the variable
pub variable_forms : (s : Stand) (v : ℕ) (rest : List ℕ) → v < 2 ^ 64 → begins_calm rest ≡ true → Forms (variable s v) rest
unfolding value_of
variable_forms s v rest l e =
    let f : form (95 ∷ decimal v ++ rest) ≡ Ok (kind.Variable, rest) =
    form_variable 95 (decimal v ++ rest) (no_name_start 95 refl refl) refl
    ∙ ap (λ l. Ok (kind.Variable, l)) (run_ends Continuing (decimal v) rest (digits_continue (decimal v) (decimal_digits v l)) e) in
    record {
      first = 95;
      others = decimal v;
      parts = refl;
      formed = f;
      named = variable_spelled (95 ∷ decimal v) rest f;
      valued = refl;
      gapless = no_gap 95 (decimal v ++ rest) refl;
    }

-- ---- integers

run_of_digits : (ds rest : List ℕ) → AllDigits 10 ds → begins_calm rest ≡ true → after_digits 10 (ds ++ rest) ≡ rest
unfolding after_digits
run_of_digits [] [] a e = cc
run_of_digits [] (r ∷ rest) a e = rw (calm_of r e).digit refl
run_of_digits (d ∷ ds) rest a e = rw (digit_of d a.0).digit (run_of_digits ds rest a.1 e)

value_of_digits : (value : ℕ) (ds rest : List ℕ) → AllDigits 10 ds → begins_calm rest ≡ true → value_with 10 value (ds ++ rest) ≡ digits_value_after 10 value ds
unfolding value_with
value_of_digits value [] [] a e = cc
value_of_digits value [] (r ∷ rest) a e = rw (calm_of r e).digit refl
value_of_digits value (d ∷ ds) rest a e = rw (digit_of d a.0).digit (value_of_digits (value * 10 + digit_value d) ds rest a.1 e)

found_number : (n m : ℕ) (xs ys : List ℕ) → n ≡ m → xs ≡ ys → Some (pair_of n xs) ≡ Some (pair_of m ys)
found_number n m xs ys e f = ap (λ p. Some p) (same_pair n m xs ys e f)

zero_integer : (rest : List ℕ) → begins_calm rest ≡ true → integer (48 ∷ rest) ≡ Some (0, rest)
unfolding integer after_zero
zero_integer [] e = cc
zero_integer (r ∷ rest) e = rw ((calm_of r e).marks, (calm_of r e).base) (found_number _ 0 _ (r ∷ rest) (value_of_digits 0 [] (r ∷ rest) tt e) (run_of_digits [] (r ∷ rest) tt e))

other_integer : (n : ℕ) (ds rest : List ℕ) → AllDigits 10 ds → 48 < get_or ds 0 0 → digits_value 10 ds ≡ n → begins_calm rest ≡ true → integer (ds ++ rest) ≡ Some (n, rest)
unfolding integer
other_integer n [] rest a l v e = absurd (omega arith)
other_integer n (d ∷ ds) rest a l v e =
    let first : (d == 48) ≡ false = ne_eqb d 48 (λ q. omega arith) in
    rw first (found_number _ n _ rest (value_of_digits 0 (d ∷ ds) rest a e ∙ v) (run_of_digits (d ∷ ds) rest a e))

pub integer_of : (n : ℕ) (rest : List ℕ) → n < 2 ^ 64 → begins_calm rest ≡ true → integer (decimal n ++ rest) ≡ Some (n, rest)
integer_of zero rest l e = ap (λ ds. integer (ds ++ rest)) (decimal_digit 0 (omega arith)) ∙ zero_integer rest e
integer_of (suc m) rest l e =
    let d = decimal_is_IsNumeral (suc m) l in
    other_integer (suc m) (decimal (suc m)) rest d.0.1 (first_decimal (suc m) (omega arith) l) d.1 e

-- an integer of given digits
abbrev numeral : Stand → ℕ → List ℕ → Piece
numeral s n ds = record { stand = s; kind = kind.Integer; name = []; value = n; own = ds }

numeral_forms : (s : Stand) (n : ℕ) (ds rest : List ℕ) → AllDigits 10 ds → 0 < length ds → n ≤ largest → integer (ds ++ rest) ≡ Some (n, rest) → Forms (numeral s n ds) rest
unfolding name_of value_of
numeral_forms s n [] rest a l m i = absurd (omega arith)
numeral_forms s n (d ∷ ds) rest a l m i =
    let facts = digit_of d a.0 in
    let small : nat_le n largest ≡ true = le-leb n largest m in
    let read : integer_form (Some (n, rest)) ≡ Ok (kind.Integer, rest) = rw small refl in
    record {
      first = d;
      others = ds;
      parts = refl;
      formed = form_digit d (ds ++ rest) facts.name facts.variable facts.digit ∙ ap integer_form i ∙ read;
      named = refl;
      valued = ap number_value i;
      gapless = no_gap d (ds ++ rest) facts.gap;
    }

-- a number's digits are lexed as the integer
pub number_forms : (s : Stand) (n : ℕ) (rest : List ℕ) → n ≤ 2 ^ 63 → begins_calm rest ≡ true → Forms (number s n) rest
number_forms s n rest l e =
    let fits : n < 2 ^ 64 = omega arith in
    let d = decimal_is_IsNumeral n fits in
    numeral_forms s n (decimal n) rest d.0.1 d.0.0 (omega arith) (integer_of n rest fits e)

-- the first digit of an integer, which a minus sign may stand before
pub record IsNumber (n : ℕ) : Type 0 where
  pub first : ℕ
  pub others : List ℕ
  pub parts : decimal n ≡ first ∷ others
  pub graphic : is_graphic first ≡ false

-- a number has a first digit
pub number_first : (n : ℕ) → n < 2 ^ 64 → IsNumber n
number_first n l = let d = decimal_is_IsNumeral n l in by (decimal n) refl d.0.1 d.0.0
  where
    by : (ds : List ℕ) → decimal n ≡ ds → AllDigits 10 ds → 0 < length ds → IsNumber n
    by [] e a l = absurd (omega arith)
    by (d ∷ ds) e a l = record { first = d; others = ds; parts = e; graphic = (digit_of d a.0).graphic }
