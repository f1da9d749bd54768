-- The characters of names without quotes and of single characters are lexed as their tokens.
use Rattle.std.proofs.Common.{◌≡◌, ◌≢◌, ℕ, ◌-◌, Bool, true, false, not, ◌&&◌, ◌||◌, ◌==◌, cond, List, [], ◌∷◌, ◌++◌, length, take, Some, None, Ok, refl, sym, ap, subst, ◌∙◌, arith, inl, inr, codes, length-append}
use Rattle.std.specs.List.{list_all}
use Rattle.std.specs.Char.{is_digit}
use Rattle.std.proofs.Math.Seq.{take-append_seam}
use Rattle.std.proofs.lemmas.Bool.{eqb-true, and_parts, or_cases}
use Rattle.tp_terms.specs.Term.{Name, names_eq}
use Rattle.tp_terms.proofs.Texts.Equal.{names_eq-Decides}
use Rattle.tp_lex.specs.Characters.{percent, slash, star, dot, quote, double_quote, is_layout, is_graphic, is_name_start, is_variable_start, is_in_class, is_letter_digit, after_run}
use Rattle.tp_lex.specs.declared.chars.Class.TheVariants.{Continuing, Graphic}
use Rattle.tp_lex.specs.declared.token.TokenKind.{TokenKind}
use Rattle.tp_lex.specs.declared.token.TokenKind.TheVariants as kind
use Rattle.tp_lex.specs.Integers.{integer}
use Rattle.tp_lex.specs.Quotes.{inside, after_closing}
use Rattle.tp_lex.specs.Layout.{closed, after_comment, after_gap, after_slash}
use Rattle.tp_lex.specs.Form.{single, ends_clause, graphic_form, integer_form, quotes_form, single_form, form, before, name_of, value_of}
use Rattle.tp_lex.proofs.TokensStand.Each.{spelled-of}
use Rattle.tp_write.specs.Names.{begins_comment, is_graphic_name, is_solo, is_bare}
use Rattle.tp_write.proofs.ReadsBack.Pieces.{Stand, Piece, mark, minus_sign}
use Rattle.tp_write.proofs.ReadsBack.Lexed.Characters.{begins_calm, calm_of, run_ends, begins_gap, no_gap, name_start_no_gap, graphic_of, no_name_start}

-- a piece's characters before others are lexed as the piece, and no layout stands before them
pub record Forms (p : Piece) (rest : List ℕ) : Type 0 where
  pub first : ℕ
  pub others : List ℕ
  pub parts : p.own ≡ first ∷ others
  pub formed : form (p.own ++ rest) ≡ Ok (p.kind, rest)
  pub named : name_of p.kind (p.own ++ rest) ≡ p.name
  pub valued : value_of p.kind (p.own ++ rest) ≡ p.value
  pub gapless : after_gap (p.own ++ rest) ≡ Ok None

-- ---- the form by its first character

pub form_name : (c : ℕ) (cs : List ℕ) → is_name_start c ≡ true → form (c ∷ cs) ≡ Ok (kind.Name, after_run Continuing cs)
unfolding form
form_name c cs e = rw e refl

-- the form of what begins as a variable
pub form_variable : (c : ℕ) (cs : List ℕ) → is_name_start c ≡ false → is_variable_start c ≡ true → form (c ∷ cs) ≡ Ok (kind.Variable, after_run Continuing cs)
unfolding form
form_variable c cs n v = rw (n, v) refl

-- the form of what begins with a digit
pub form_digit : (c : ℕ) (cs : List ℕ) → is_name_start c ≡ false → is_variable_start c ≡ false → is_digit c 10 ≡ true → form (c ∷ cs) ≡ integer_form (integer (c ∷ cs))
unfolding form
form_digit c cs n v d = rw (n, v, d) refl

-- the form of what begins with a quote
pub form_quote : (cs : List ℕ) → form (quote ∷ cs) ≡ quotes_form kind.Quoted (after_closing (inside quote cs))
unfolding form
form_quote cs = rw (no_name_start 39 refl refl) refl

pub form_graphic : (c : ℕ) (cs : List ℕ) → is_graphic c ≡ true → form (c ∷ cs) ≡ Ok (graphic_form c cs)
unfolding form
form_graphic c cs e = let g = graphic_of c e in rw (g.name, g.variable, g.digit, g.marks, g.double_marks, e) refl

pub form_single : (c : ℕ) (cs : List ℕ) → is_name_start c ≡ false → is_variable_start c ≡ false → is_digit c 10 ≡ false → (c == quote) ≡ false → (c == double_quote) ≡ false → is_graphic c ≡ false → form (c ∷ cs) ≡ single_form (single c) cs
unfolding form
form_single c cs n v d q w g = rw (n, v, d, q, w, g) refl

-- ---- the token's own characters

pub own_before : (own rest : List ℕ) → before (own ++ rest) rest ≡ own
own_before own rest =
    let count = length-append own rest in
    ap (λ n. take n (own ++ rest)) (let n : length (own ++ rest) - length rest ≡ length own = omega arith in n) ∙ take-append_seam own rest

pub name_spelled : (own rest : List ℕ) → form (own ++ rest) ≡ Ok (kind.Name, rest) → name_of kind.Name (own ++ rest) ≡ own
unfolding name_of
name_spelled own rest e = spelled-of (own ++ rest) kind.Name rest e ∙ own_before own rest

-- the characters of a variable's token are its name
pub variable_spelled : (own rest : List ℕ) → form (own ++ rest) ≡ Ok (kind.Variable, rest) → name_of kind.Variable (own ++ rest) ≡ own
unfolding name_of
variable_spelled own rest e = spelled-of (own ++ rest) kind.Variable rest e ∙ own_before own rest

pub no_value : (k : TokenKind) (cs : List ℕ) → k ≢ kind.Integer → value_of k cs ≡ 0
unfolding value_of
no_value kind.Integer cs e = absurd (e refl)
no_value k cs e = refl

-- ---- names without quotes

-- a name that is its own characters
abbrev pub bare : Stand → Name → Piece
bare s f = record { stand = s; kind = kind.Name; name = f; value = 0; own = f }

pub bare_forms : (s : Stand) (c : ℕ) (cs rest : List ℕ) → form (c ∷ cs ++ rest) ≡ Ok (kind.Name, rest) → after_gap (c ∷ cs ++ rest) ≡ Ok None → Forms (bare s (c ∷ cs)) rest
unfolding value_of
bare_forms s c cs rest e g = record { first = c; others = cs; parts = refl; formed = e; named = name_spelled (c ∷ cs) rest e; valued = refl; gapless = g }

letter_digit_forms : (s : Stand) (f : Name) (rest : List ℕ) → is_letter_digit f ≡ true → begins_calm rest ≡ true → Forms (bare s f) rest
letter_digit_forms s [] rest e b = cc
letter_digit_forms s (c ∷ cs) rest e b =
    let both = and_parts (is_name_start c) (list_all (is_in_class Continuing) cs) e in
    let f : form (c ∷ cs ++ rest) ≡ Ok (kind.Name, rest) = form_name c (cs ++ rest) both.0 ∙ ap (λ l. Ok (kind.Name, l)) (run_ends Continuing cs rest both.1 b) in
    bare_forms s c cs rest f (no_gap c (cs ++ rest) (name_start_no_gap c both.0))

pub single_by : (c : ℕ) (cs : List ℕ) → is_name_start c ≡ false → is_variable_start c ≡ false → is_digit c 10 ≡ false → (c == quote) ≡ false → (c == double_quote) ≡ false → is_graphic c ≡ false → (k : TokenKind) → single c ≡ Some k → form (c ∷ cs) ≡ Ok (k, cs)
single_by c cs n v d q w g k e = form_single c cs n v d q w g ∙ ap (λ o. single_form o cs) e

cut_forms : (s : Stand) (rest : List ℕ) → Forms (bare s (codes "!")) rest
cut_forms s rest = bare_forms s 33 [] rest (single_by 33 rest (no_name_start 33 refl refl) refl refl refl refl refl kind.Name refl) (no_gap 33 rest refl)

semicolon_forms : (s : Stand) (rest : List ℕ) → Forms (bare s (codes ";")) rest
semicolon_forms s rest = bare_forms s 59 [] rest (single_by 59 rest (no_name_start 59 refl refl) refl refl refl refl refl kind.Name refl) (no_gap 59 rest refl)

-- graphic characters
graphic_not_end : (c : ℕ) (cs rest : List ℕ) → is_graphic_name (c ∷ cs) ≡ true → ((c == dot) && ends_clause (cs ++ rest)) ≡ false
graphic_not_end c [] rest e = by (c == dot) refl
  where
    by : (b : Bool) → (c == dot) ≡ b → (b && ends_clause rest) ≡ false
    by true q = absurd (let d = eqb-true c dot q in let broken : is_graphic_name (dot ∷ []) ≡ true = subst (λ x. is_graphic_name (x ∷ []) ≡ true) d e in cc)
    by false q = refl
graphic_not_end c (d ∷ cs) rest e =
    let all = (and_parts (list_all is_graphic (c ∷ d ∷ cs)) (not (names_eq (c ∷ d ∷ cs) (dot ∷ [])) && not (begins_comment (c ∷ d ∷ cs))) e).0 in
    let later = (and_parts (is_graphic c) (list_all is_graphic (d ∷ cs)) all).1 in
    let g = graphic_of d (and_parts (is_graphic d) (list_all is_graphic cs) later).0 in
    by (c == dot) (is_layout d || (d == percent)) (ap (λ x. x || (d == percent)) g.layout ∙ g.comment)
  where
    by : (a b : Bool) → b ≡ false → (a && b) ≡ false
    by true b e = e
    by false b e = refl

slash_gap : (c : ℕ) (cs rest : List ℕ) → is_graphic_name (c ∷ cs) ≡ true → begins_calm rest ≡ true → c ≡ slash → after_slash (cs ++ rest) ≡ Ok None
slash_gap c [] [] e b s = cc
slash_gap c [] (r ∷ rest) e b s = rw (calm_of r b).star refl
slash_gap c (d ∷ cs) rest e b s =
    let slashed : is_graphic_name (slash ∷ d ∷ cs) ≡ true = subst (λ x. is_graphic_name (x ∷ d ∷ cs) ≡ true) s e in
    let ends = (and_parts (list_all is_graphic (slash ∷ d ∷ cs)) (not (names_eq (slash ∷ d ∷ cs) (dot ∷ [])) && not (d == star)) slashed).1 in
    let none = (and_parts (not (names_eq (slash ∷ d ∷ cs) (dot ∷ []))) (not (d == star)) ends).1 in
    by (d == star) none
  where
    by : (x : Bool) → not x ≡ true → cond x (closed (after_comment (cs ++ rest))) (Ok None) ≡ Ok None
    by true e = cc
    by false e = refl

graphic_gap : (c : ℕ) (cs rest : List ℕ) → is_graphic_name (c ∷ cs) ≡ true → is_graphic c ≡ true → begins_calm rest ≡ true → after_gap (c ∷ cs ++ rest) ≡ Ok None
unfolding after_gap
graphic_gap c cs rest e g b =
    let facts = graphic_of c g in
    let layout = facts.layout in
    let comment = facts.comment in
    rw (layout, comment) (by (c == slash) refl)
  where
    by : (x : Bool) → (c == slash) ≡ x → cond x (after_slash (cs ++ rest)) (Ok None) ≡ Ok None
    by true q = slash_gap c cs rest e b (eqb-true c slash q)
    by false q = refl

graphic_forms : (s : Stand) (f : Name) (rest : List ℕ) → is_graphic_name f ≡ true → begins_calm rest ≡ true → Forms (bare s f) rest
graphic_forms s [] rest e b = cc
graphic_forms s (c ∷ cs) rest e b =
    let all = (and_parts (list_all is_graphic (c ∷ cs)) (not (names_eq (c ∷ cs) (dot ∷ [])) && not (begins_comment (c ∷ cs))) e).0 in
    let both = and_parts (is_graphic c) (list_all is_graphic cs) all in
    let going : graphic_form c (cs ++ rest) ≡ (kind.Name, after_run Graphic (cs ++ rest)) = rw (graphic_not_end c cs rest e) refl in
    let f : form (c ∷ cs ++ rest) ≡ Ok (kind.Name, rest) =
    form_graphic c (cs ++ rest) both.0 ∙ ap Ok going ∙ ap (λ l. Ok (kind.Name, l)) (run_ends Graphic cs rest both.1 b) in
    bare_forms s c cs rest f (graphic_gap c cs rest e both.0 b)

same_name : (a b : Name) → names_eq a b ≡ true → a ≡ b
same_name a b e = (names_eq-Decides a b).0 e

solo_forms : (s : Stand) (f : Name) (rest : List ℕ) → is_solo f ≡ true → f ≢ codes "[]" → f ≢ codes "{}" → Forms (bare s f) rest
solo_forms s f rest e n m = elim (or_cases (names_eq f (codes "[]") || names_eq f (codes "{}")) (names_eq f (codes "!") || names_eq f (codes ";")) e) [
  | inl closed ↦ elim (or_cases (names_eq f (codes "[]")) (names_eq f (codes "{}")) closed) [
    | inl q ↦ absurd (n (same_name f (codes "[]") q))
    | inr q ↦ absurd (m (same_name f (codes "{}") q))
  ]
  | inr alone ↦ elim (or_cases (names_eq f (codes "!")) (names_eq f (codes ";")) alone) [
    | inl q ↦ subst (λ g. Forms (bare s g) rest) (sym (same_name f (codes "!") q)) (cut_forms s rest)
    | inr q ↦ subst (λ g. Forms (bare s g) rest) (sym (same_name f (codes ";") q)) (semicolon_forms s rest)
  ]
]

-- a name that is written without quotes
pub bare_name_forms : (s : Stand) (f : Name) (rest : List ℕ) → is_bare f ≡ true → f ≢ codes "[]" → f ≢ codes "{}" → begins_calm rest ≡ true → Forms (bare s f) rest
bare_name_forms s f rest e n m b = elim (or_cases (is_letter_digit f) (is_solo f || is_graphic_name f) e) [
  | inl letters ↦ letter_digit_forms s f rest letters b
  | inr other ↦ elim (or_cases (is_solo f) (is_graphic_name f) other) [
    | inl solo ↦ solo_forms s f rest solo n m
    | inr graphic ↦ graphic_forms s f rest graphic b
  ]
]

-- ---- single characters

pub mark_forms : (s : Stand) (k : TokenKind) (c : ℕ) (rest : List ℕ) → form (c ∷ rest) ≡ Ok (k, rest) → name_of k (c ∷ rest) ≡ [] → value_of k (c ∷ rest) ≡ 0 → begins_gap c ≡ false → Forms (mark s k c) rest
mark_forms s k c rest e n v g = record { first = c; others = []; parts = refl; formed = e; named = n; valued = v; gapless = no_gap c rest g }

-- an opening parenthesis is lexed as itself
pub open_forms : (s : Stand) (rest : List ℕ) → Forms (mark s kind.Open 40) rest
unfolding name_of value_of
open_forms s rest = mark_forms s kind.Open 40 rest (single_by 40 rest (no_name_start 40 refl refl) refl refl refl refl refl kind.Open refl) refl refl refl

-- a closing parenthesis is lexed as itself
pub close_forms : (s : Stand) (rest : List ℕ) → Forms (mark s kind.Close 41) rest
unfolding name_of value_of
close_forms s rest = mark_forms s kind.Close 41 rest (single_by 41 rest (no_name_start 41 refl refl) refl refl refl refl refl kind.Close refl) refl refl refl

-- an opening bracket is lexed as itself
pub open_list_forms : (s : Stand) (rest : List ℕ) → Forms (mark s kind.OpenList 91) rest
unfolding name_of value_of
open_list_forms s rest = mark_forms s kind.OpenList 91 rest (single_by 91 rest (no_name_start 91 refl refl) refl refl refl refl refl kind.OpenList refl) refl refl refl

-- a closing bracket is lexed as itself
pub close_list_forms : (s : Stand) (rest : List ℕ) → Forms (mark s kind.CloseList 93) rest
unfolding name_of value_of
close_list_forms s rest = mark_forms s kind.CloseList 93 rest (single_by 93 rest (no_name_start 93 refl refl) refl refl refl refl refl kind.CloseList refl) refl refl refl

-- an opening brace is lexed as itself
pub open_curly_forms : (s : Stand) (rest : List ℕ) → Forms (mark s kind.OpenCurly 123) rest
unfolding name_of value_of
open_curly_forms s rest = mark_forms s kind.OpenCurly 123 rest (single_by 123 rest (no_name_start 123 refl refl) refl refl refl refl refl kind.OpenCurly refl) refl refl refl

-- a closing brace is lexed as itself
pub close_curly_forms : (s : Stand) (rest : List ℕ) → Forms (mark s kind.CloseCurly 125) rest
unfolding name_of value_of
close_curly_forms s rest = mark_forms s kind.CloseCurly 125 rest (single_by 125 rest (no_name_start 125 refl refl) refl refl refl refl refl kind.CloseCurly refl) refl refl refl

-- a comma is lexed as itself
pub comma_forms : (s : Stand) (rest : List ℕ) → Forms (mark s kind.Comma 44) rest
unfolding name_of value_of
comma_forms s rest = mark_forms s kind.Comma 44 rest (single_by 44 rest (no_name_start 44 refl refl) refl refl refl refl refl kind.Comma refl) refl refl refl

-- a bar is lexed as itself
pub bar_forms : (s : Stand) (rest : List ℕ) → Forms (mark s kind.Bar 124) rest
unfolding name_of value_of
bar_forms s rest = mark_forms s kind.Bar 124 rest (single_by 124 rest (no_name_start 124 refl refl) refl refl refl refl refl kind.Bar refl) refl refl refl

-- the dot before a newline
pub end_forms : (s : Stand) → Forms (mark s kind.End 46) (10 ∷ [])
unfolding name_of value_of
end_forms s = mark_forms s kind.End 46 (10 ∷ []) (form_graphic 46 (10 ∷ []) refl) refl refl refl

-- a minus sign before a digit
pub minus_forms : (s : Stand) (d : ℕ) (rest : List ℕ) → is_graphic d ≡ false → Forms (minus_sign s) (d ∷ rest)
unfolding after_run
minus_forms s d rest g =
    let stops : after_run Graphic (d ∷ rest) ≡ d ∷ rest = rw g refl in
    let f : form (45 ∷ d ∷ rest) ≡ Ok (kind.Name, d ∷ rest) = form_graphic 45 (d ∷ rest) refl ∙ ap (λ l. Ok (kind.Name, l)) stops in
    bare_forms s 45 [] (d ∷ rest) f (no_gap 45 (d ∷ rest) refl)
