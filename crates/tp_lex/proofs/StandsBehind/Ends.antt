-- What each part of a token leaves is an end of the characters.
use Rattle.std.proofs.Common.{◌≡◌, ℕ, zero, suc, Bool, true, false, ◌==◌, ◌&&◌, cond, List, [], ◌∷◌, length, Some, None, Ok, Err, IfSome, IfOk, MatchResult, refl}
use Rattle.std.specs.Prelude.{Option, Result}
use Rattle.std.specs.Char.{is_digit}
use Rattle.tp_lex.specs.declared.chars.Class.{Class}
use Rattle.tp_lex.specs.declared.token.Fault.{Fault}
use Rattle.tp_lex.specs.Characters.{after_run, is_in_class, newline, percent, slash, star, backslash, is_layout}
use Rattle.tp_lex.specs.Digits.{after_digits, number}
use Rattle.tp_lex.specs.Layout.{after_line, after_comment, comment_end, closed, after_slash, after_gap, past_gaps, past_layout}
use Rattle.std.proofs.Common.{nat_le}
use lib.Utf8.{scalar}
use Rattle.tp_lex.specs.declared.token.Fault.TheVariants.{BadToken, NumberRange, Unfinished}
use Rattle.tp_lex.specs.declared.token.TokenKind.{TokenKind}
use Rattle.tp_lex.specs.declared.token.TokenKind.TheVariants as kinds
use Rattle.tp_lex.specs.declared.chars.Class.TheVariants.{Continuing, Graphic}
use Rattle.tp_lex.specs.declared.quotes.Item.{Item}
use Rattle.tp_lex.specs.declared.quotes.Item.TheVariants.{Stands, Skipped, Closed}
use Rattle.tp_lex.specs.Characters.{quote, double_quote, dot, is_graphic, is_name_start, is_variable_start}
use Rattle.tp_lex.specs.Digits.{begins_with_digit, value_with}
use Rattle.tp_lex.specs.Escapes.{letter_escape, closed_code, code_escape, plain_escape, escape}
use Rattle.tp_lex.specs.Quotes.{at_quote, escaped, item, with_first, items, inside, after_closing}
use Rattle.tp_lex.specs.Integers.{doubled_quote, escaped_code, character_code, base_of, based, after_zero, integer}
use Rattle.tp_lex.specs.Form.{largest, single, ends_clause, graphic_form, integer_form, quotes_form, single_form, form}
use Rattle.tp_lex.proofs.Places.Suffixes.{EndsWith, ends-same, ends-cons, ends-trans, of_choice}

pub after_run-ends : (class : Class) (cs : List ℕ) → EndsWith cs (after_run class cs)
unfolding after_run
after_run-ends class [] = ends-same []
after_run-ends class (c ∷ cs) =
    of_choice (EndsWith (c ∷ cs)) (is_in_class class c) _ _ (ends-cons c cs _ (after_run-ends class cs)) (ends-same (c ∷ cs))

pub after_digits-ends : (base : ℕ) (cs : List ℕ) → EndsWith cs (after_digits base cs)
unfolding after_digits
after_digits-ends base [] = ends-same []
after_digits-ends base (c ∷ cs) =
    of_choice (EndsWith (c ∷ cs)) (is_digit c base) _ _ (ends-cons c cs _ (after_digits-ends base cs)) (ends-same (c ∷ cs))

pub after_line-ends : (cs : List ℕ) → EndsWith cs (after_line cs)
unfolding after_line
after_line-ends [] = ends-same []
after_line-ends (c ∷ cs) =
    of_choice (EndsWith (c ∷ cs)) (c == newline) _ _ (ends-same (c ∷ cs)) (ends-cons c cs _ (after_line-ends cs))

abbrev pub SomeEnd : List ℕ → Option (List ℕ) → Type 0
SomeEnd cs o = IfSome o (EndsWith cs)

abbrev pub OkSomeEnd : List ℕ → Result (Option (List ℕ)) Fault → Type 0
OkSomeEnd cs r = IfOk r (SomeEnd cs)

pub comment_end-ends : (cs : List ℕ) → SomeEnd cs (comment_end cs)
unfolding comment_end
comment_end-ends [] = tt
comment_end-ends (c ∷ []) = tt
comment_end-ends (c ∷ d ∷ cs) =
    of_choice (SomeEnd (c ∷ d ∷ cs)) ((c == star) && (d == slash)) (Some cs) None (ends-cons c (d ∷ cs) cs (ends-cons d cs cs (ends-same cs))) tt

pub after_comment-ends : (cs : List ℕ) → SomeEnd cs (after_comment cs)
unfolding after_comment
after_comment-ends [] = tt
after_comment-ends (c ∷ cs) = by (comment_end (c ∷ cs)) (comment_end-ends (c ∷ cs)) (after_comment cs) (after_comment-ends cs)
  where
    later : (o : Option (List ℕ)) → SomeEnd cs o → SomeEnd (c ∷ cs) o
    later (Some rest) e = ends-cons c cs rest e
    later None e = tt

    by : (o : Option (List ℕ)) → SomeEnd (c ∷ cs) o → (more : Option (List ℕ)) → SomeEnd cs more → SomeEnd (c ∷ cs) (elim o [ Some rest ↦ Some rest | None ↦ more ])
    by (Some rest) e more m = e
    by None e more m = later more m

pub after_slash-ends : (cs : List ℕ) → OkSomeEnd cs (after_slash cs)
after_slash-ends [] = tt
after_slash-ends (d ∷ cs) =
    of_choice (OkSomeEnd (d ∷ cs)) (d == star) (closed (after_comment cs)) (Ok None) (by (after_comment cs) (after_comment-ends cs)) tt
  where
    by : (o : Option (List ℕ)) → SomeEnd cs o → OkSomeEnd (d ∷ cs) (closed o)
    by (Some rest) e = ends-cons d cs rest e
    by None e = tt

-- a gap takes at least one character
pub after_gap-ends : (c : ℕ) (cs : List ℕ) → OkSomeEnd cs (after_gap (c ∷ cs))
unfolding after_gap
after_gap-ends c cs =
    of_choice (OkSomeEnd cs) (is_layout c) _ _ (ends-same cs)
    (of_choice (OkSomeEnd cs) (c == percent) _ _ (after_line-ends cs)
    (of_choice (OkSomeEnd cs) (c == slash) _ _ (after_slash-ends cs) tt))

pub after_gap-none : after_gap [] ≡ Ok None
unfolding after_gap
after_gap-none = refl

abbrev pub gap_step : (List ℕ → Result (List ℕ) (List ℕ)) → List ℕ → Result (Option (List ℕ)) Fault → Result (List ℕ) (List ℕ)
gap_step more cs r =
    elim r [
      | Ok after ↦ elim after [ Some rest ↦ more rest | None ↦ Ok cs ]
      | Err fault ↦ Err cs
    ]

pub past_gaps-ends : (n : ℕ) (cs : List ℕ) → MatchResult (past_gaps n cs) (EndsWith cs) (EndsWith cs)
unfolding past_gaps
past_gaps-ends zero cs = ends-same cs
past_gaps-ends (suc n) [] = rw (after_gap-none, past_gaps) (ends-same [])
past_gaps-ends (suc n) (c ∷ cs) = by (after_gap (c ∷ cs)) (after_gap-ends c cs) (λ rest. past_gaps-ends n rest)
  where
    wider : (rest : List ℕ) (r : Result (List ℕ) (List ℕ)) → EndsWith cs rest → MatchResult r (EndsWith rest) (EndsWith rest) → MatchResult r (EndsWith (c ∷ cs)) (EndsWith (c ∷ cs))
    wider rest (Ok end) e m = ends-cons c cs end (ends-trans cs rest end e m)
    wider rest (Err end) e m = ends-cons c cs end (ends-trans cs rest end e m)

    by : (r : Result (Option (List ℕ)) Fault) → OkSomeEnd cs r →
        ((rest : List ℕ) → MatchResult (past_gaps n rest) (EndsWith rest) (EndsWith rest)) →
        MatchResult (gap_step (past_gaps n) (c ∷ cs) r) (EndsWith (c ∷ cs)) (EndsWith (c ∷ cs))
    by (Ok (Some rest)) e more = wider rest (past_gaps n rest) e (more rest)
    by (Ok None) e more = ends-same (c ∷ cs)
    by (Err fault) e more = ends-same (c ∷ cs)

pub past_layout-ends : (cs : List ℕ) → MatchResult (past_layout cs) (EndsWith cs) (EndsWith cs)
unfolding past_layout
past_layout-ends cs = past_gaps-ends (length cs) cs

-- escapes
abbrev pub OkEnd : {A : Type 0} → List ℕ → Result (A × List ℕ) Fault → Type 0
OkEnd cs r = IfOk r (λ p. EndsWith cs p.1)

pub okend-trans : {A : Type 0} (all middle : List ℕ) (r : Result (A × List ℕ) Fault) → EndsWith all middle → OkEnd middle r → OkEnd all r
okend-trans all middle (Ok p) e o = ends-trans all middle p.1 e o
okend-trans all middle (Err fault) e o = tt

pub closed_code-ends : (value : ℕ) (cs : List ℕ) → OkEnd cs (closed_code value cs)
closed_code-ends value [] = tt
closed_code-ends value (c ∷ cs) =
    of_choice (OkEnd (c ∷ cs)) ((c == backslash) && scalar value) _ _ (ends-cons c cs cs (ends-same cs)) tt

pub code_escape-ends : (base : ℕ) (cs : List ℕ) → OkEnd cs (code_escape base cs)
unfolding code_escape
code_escape-ends base [] = tt
code_escape-ends base (c ∷ cs) =
    let rest : List ℕ = after_digits base (c ∷ cs) in
    let value : ℕ = value_with base 0 (c ∷ cs) in
    of_choice (OkEnd (c ∷ cs)) (is_digit c base) (closed_code value rest) (Err BadToken)
    (okend-trans (c ∷ cs) rest (closed_code value rest) (after_digits-ends base (c ∷ cs)) (closed_code-ends value rest)) tt

pub escape-ends : (cs : List ℕ) → OkEnd cs (escape cs)
unfolding escape
escape-ends [] = tt
escape-ends (c ∷ cs) =
    let tail : EndsWith (c ∷ cs) cs = ends-cons c cs cs (ends-same cs) in
    of_choice (OkEnd (c ∷ cs)) (c == newline) (Ok (None, cs)) _ tail
    (of_choice (OkEnd (c ∷ cs)) (c == 120) (code_escape 16 cs) _ (okend-trans (c ∷ cs) cs (code_escape 16 cs) tail (code_escape-ends 16 cs))
    (of_choice (OkEnd (c ∷ cs)) (is_digit c 8) (code_escape 8 (c ∷ cs)) _ (code_escape-ends 8 (c ∷ cs)) (by (letter_escape c))))
  where
    by : (o : Option ℕ) → OkEnd (c ∷ cs) (plain_escape o cs)
    by (Some code) = ends-cons c cs cs (ends-same cs)
    by None = tt

-- the inside of quotes
pub at_quote-ends : (mark : ℕ) (cs : List ℕ) → EndsWith cs (at_quote mark cs).1
at_quote-ends mark [] = ends-same []
at_quote-ends mark (c ∷ cs) =
    let P : Item × List ℕ → Type 0 = λ p. EndsWith (c ∷ cs) p.1 in
    of_choice P (c == mark) (Stands mark, cs) (Closed, c ∷ cs) (ends-cons c cs cs (ends-same cs)) (ends-same (c ∷ cs))

pub escaped-ends : (cs : List ℕ) (r : Result (Option ℕ × List ℕ) Fault) → OkEnd cs r → OkEnd cs (escaped r)
escaped-ends cs (Ok (Some c, rest)) e = e
escaped-ends cs (Ok (None, rest)) e = e
escaped-ends cs (Err fault) e = tt

-- an item takes at least one character
pub item-ends : (mark c : ℕ) (cs : List ℕ) → OkEnd cs (item mark (c ∷ cs))
unfolding item
item-ends mark c cs =
    of_choice (OkEnd cs) (c == mark) (Ok (at_quote mark cs)) _ (at_quote-ends mark cs)
    (of_choice (OkEnd cs) (c == backslash) (escaped (escape cs)) _ (escaped-ends cs (escape cs) (escape-ends cs))
    (of_choice (OkEnd cs) (c == newline) (Err BadToken) (Ok (Stands c, cs)) tt (ends-same cs)))

abbrev pub step_of : (List ℕ → Result (List ℕ × List ℕ) Fault) → Result (Item × List ℕ) Fault → Result (List ℕ × List ℕ) Fault
step_of more r =
    elim r [
      | Ok found ↦ elim found.0 [
        | Stands c ↦ with_first c (more found.1)
        | Skipped ↦ more found.1
        | Closed ↦ Ok ([], found.1)
      ]
      | Err fault ↦ Err fault
    ]

pub item-none : (mark : ℕ) → item mark [] ≡ Err Unfinished
unfolding item
item-none mark = refl

pub items-ends : (mark n : ℕ) (cs : List ℕ) → OkEnd cs (items mark n cs)
unfolding items
items-ends mark zero cs = tt
items-ends mark (suc n) [] = rw (item-none mark, items) tt
items-ends mark (suc n) (c ∷ cs) = by (item mark (c ∷ cs)) (item-ends mark c cs) (λ rest. items-ends mark n rest)
  where
    wider : (rest : List ℕ) (r : Result (List ℕ × List ℕ) Fault) → EndsWith cs rest → OkEnd rest r → OkEnd (c ∷ cs) r
    wider rest r e o = okend-trans (c ∷ cs) rest r (ends-cons c cs rest e) o

    first : (d : ℕ) (rest : List ℕ) (r : Result (List ℕ × List ℕ) Fault) → EndsWith cs rest → OkEnd rest r → OkEnd (c ∷ cs) (with_first d r)
    first d rest (Ok p) e o = wider rest (Ok p) e o
    first d rest (Err fault) e o = tt

    by : (r : Result (Item × List ℕ) Fault) → OkEnd cs r → ((rest : List ℕ) → OkEnd rest (items mark n rest)) → OkEnd (c ∷ cs) (step_of (items mark n) r)
    by (Ok (Stands d, rest)) e more = first d rest (items mark n rest) e (more rest)
    by (Ok (Skipped, rest)) e more = wider rest (items mark n rest) e (more rest)
    by (Ok (Closed, rest)) e more = ends-cons c cs rest e
    by (Err fault) e more = tt

pub after_closing-ends : (cs : List ℕ) (r : Result (List ℕ × List ℕ) Fault) → OkEnd cs r → IfOk (after_closing r) (EndsWith cs)
after_closing-ends cs (Ok p) o = o
after_closing-ends cs (Err fault) o = tt

pub inside-ends : (mark : ℕ) (cs : List ℕ) → OkEnd cs (inside mark cs)
unfolding inside
inside-ends mark cs = items-ends mark (length cs) cs

-- integers
abbrev pub NumberEnd : List ℕ → Option (ℕ × List ℕ) → Type 0
NumberEnd cs o = IfSome o (λ p. EndsWith cs p.1)

pub doubled_quote-ends : (cs : List ℕ) → NumberEnd cs (doubled_quote cs)
doubled_quote-ends [] = tt
doubled_quote-ends (c ∷ cs) = of_choice (NumberEnd (c ∷ cs)) (c == quote) (Some (quote, cs)) None (ends-cons c cs cs (ends-same cs)) tt

pub escaped_code-ends : (cs : List ℕ) (r : Result (Option ℕ × List ℕ) Fault) → OkEnd cs r → NumberEnd cs (escaped_code r)
escaped_code-ends cs (Ok (Some c, rest)) e = e
escaped_code-ends cs (Ok (None, rest)) e = tt
escaped_code-ends cs (Err fault) e = tt

pub numberend-cons : (c : ℕ) (cs : List ℕ) (o : Option (ℕ × List ℕ)) → NumberEnd cs o → NumberEnd (c ∷ cs) o
numberend-cons c cs (Some p) e = ends-cons c cs p.1 e
numberend-cons c cs None e = tt

pub character_code-ends : (cs : List ℕ) → NumberEnd cs (character_code cs)
unfolding character_code
character_code-ends [] = tt
character_code-ends (c ∷ cs) =
    of_choice (NumberEnd (c ∷ cs)) (c == quote) (doubled_quote cs) _ (numberend-cons c cs (doubled_quote cs) (doubled_quote-ends cs))
    (of_choice (NumberEnd (c ∷ cs)) (c == backslash) (escaped_code (escape cs)) _ (numberend-cons c cs (escaped_code (escape cs)) (escaped_code-ends cs (escape cs) (escape-ends cs)))
    (of_choice (NumberEnd (c ∷ cs)) (c == newline) None (Some (c, cs)) tt (ends-cons c cs cs (ends-same cs))))

pub based-ends : (base c : ℕ) (cs : List ℕ) → EndsWith (c ∷ cs) (based base (c ∷ cs) cs).1
based-ends base c cs =
    let P : ℕ × List ℕ → Type 0 = λ p. EndsWith (c ∷ cs) p.1 in
    of_choice P (begins_with_digit base cs) (number base cs) (0, c ∷ cs) (ends-cons c cs _ (after_digits-ends base cs)) (ends-same (c ∷ cs))

pub after_zero-ends : (cs : List ℕ) → NumberEnd cs (after_zero cs)
unfolding after_zero
after_zero-ends [] = ends-same []
after_zero-ends (c ∷ cs) =
    of_choice (NumberEnd (c ∷ cs)) (c == quote) (character_code cs) _ (numberend-cons c cs (character_code cs) (character_code-ends cs)) (by (base_of c))
  where
    by : (o : Option ℕ) → NumberEnd (c ∷ cs) (elim o [ Some base ↦ Some (based base (c ∷ cs) cs) | None ↦ Some (number 10 (c ∷ cs)) ])
    by (Some base) = based-ends base c cs
    by None = after_digits-ends 10 (c ∷ cs)

pub first-digit : (c : ℕ) (cs : List ℕ) → is_digit c 10 ≡ true → EndsWith cs (after_digits 10 (c ∷ cs))
unfolding after_digits
first-digit c cs d = rw d (after_digits-ends 10 cs)

-- an integer takes at least its first digit
pub integer-ends : (c : ℕ) (cs : List ℕ) → is_digit c 10 ≡ true → NumberEnd cs (integer (c ∷ cs))
unfolding integer
integer-ends c cs d =
    of_choice (NumberEnd cs) (c == 48) (after_zero cs) (Some (number 10 (c ∷ cs))) (after_zero-ends cs) (first-digit c cs d)

-- the form of a token takes at least one character
pub form-ends : (c : ℕ) (cs : List ℕ) → OkEnd cs (form (c ∷ cs))
unfolding form
form-ends c cs =
    of_choice (OkEnd cs) (is_name_start c) (Ok (kinds.Name, after_run Continuing cs)) _ (after_run-ends Continuing cs)
    (of_choice (OkEnd cs) (is_variable_start c) (Ok (kinds.Variable, after_run Continuing cs)) _ (after_run-ends Continuing cs)
    (digit _ (is_digit c 10) refl
    (of_choice (OkEnd cs) (c == quote) (quotes_form kinds.Quoted (after_closing (inside quote cs))) _ (quotes kinds.Quoted quote)
    (of_choice (OkEnd cs) (c == double_quote) (quotes_form kinds.Codes (after_closing (inside double_quote cs))) _ (quotes kinds.Codes double_quote)
    (of_choice (OkEnd cs) (is_graphic c) (Ok (graphic_form c cs)) _ graphic (alone (single c)))))))
  where
    number_form : (o : Option (ℕ × List ℕ)) → NumberEnd cs o → OkEnd cs (integer_form o)
    number_form (Some n) e = of_choice (OkEnd cs) (nat_le n.0 largest) (Ok (kinds.Integer, n.1)) (Err NumberRange) e tt
    number_form None e = tt

    digit : (other : Result (TokenKind × List ℕ) Fault) (b : Bool) → is_digit c 10 ≡ b → OkEnd cs other → OkEnd cs (cond b (integer_form (integer (c ∷ cs))) other)
    digit other true e o = number_form (integer (c ∷ cs)) (integer-ends c cs e)
    digit other false e o = o

    quoted : (kind : TokenKind) (r : Result (List ℕ) Fault) → IfOk r (EndsWith cs) → OkEnd cs (quotes_form kind r)
    quoted kind (Ok rest) e = e
    quoted kind (Err fault) e = tt

    quotes : (kind : TokenKind) (mark : ℕ) → OkEnd cs (quotes_form kind (after_closing (inside mark cs)))
    quotes kind mark = quoted kind (after_closing (inside mark cs)) (after_closing-ends cs (inside mark cs) (inside-ends mark cs))

    graphic : EndsWith cs (graphic_form c cs).1
    graphic =
        let P : TokenKind × List ℕ → Type 0 = λ p. EndsWith cs p.1 in
        of_choice P ((c == dot) && ends_clause cs) (kinds.End, cs) (kinds.Name, after_run Graphic cs) (ends-same cs) (after_run-ends Graphic cs)

    alone : (o : Option TokenKind) → OkEnd cs (single_form o cs)
    alone (Some kind) = ends-same cs
    alone None = tt
