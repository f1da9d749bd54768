-- The token that characters begin with, behind layout and comments.
use Rattle.std.specs.Prelude.{ℕ, ◌-◌, Bool, true, false, ◌&&◌, ◌||◌, ◌==◌, nat_le, List, [], ◌∷◌}
use Rattle.std.specs.Prelude.{take, length, Option, Some, None, Result, Ok, Err, is_ok}
use Rattle.std.specs.Prelude.{if◌then◌else◌}
use Rattle.std.specs.Char.{is_digit}
use Rattle.tp_lex.specs.Characters.{double_quote, quote, dot, percent, is_layout, is_graphic}
use Rattle.tp_lex.specs.Characters.{is_name_start, is_variable_start, after_run}
use Rattle.tp_lex.specs.Quotes.{inside, stood_for, after_closing}
use Rattle.tp_lex.specs.Integers.{integer}
use Rattle.tp_lex.specs.declared.chars.Class.TheVariants.{Continuing, Graphic}
use Rattle.tp_lex.specs.declared.token.Fault.{Fault}
use Rattle.tp_lex.specs.declared.token.Fault.TheVariants.{BadToken, NumberRange}
use Rattle.tp_lex.specs.declared.token.TokenKind.{TokenKind}
use Rattle.tp_lex.specs.declared.token.TokenKind.TheVariants.{Name, Quoted, Variable, Integer}
use Rattle.tp_lex.specs.declared.token.TokenKind.TheVariants.{Codes, Open, Close, OpenList}
use Rattle.tp_lex.specs.declared.token.TokenKind.TheVariants.{CloseList, OpenCurly, CloseCurly}
use Rattle.tp_lex.specs.declared.token.TokenKind.TheVariants.{Comma, Bar, End}

-- the largest value of an Integer: 2 to the 63rd
abbrev pub largest : ℕ
largest = 9223372036854775808

-- a character that is a token by itself: `!` and `;` are Names, then `(`, `)`, `[`, `]`, `{`, `}`,
-- `,` and the bar
abbrev pub single : ℕ → Option TokenKind
single c =
    if (c == 33) || (c == 59) then Some Name
    else if c == 40 then Some Open
    else if c == 41 then Some Close
    else if c == 91 then Some OpenList
    else if c == 93 then Some CloseList
    else if c == 123 then Some OpenCurly
    else if c == 125 then Some CloseCurly
    else if c == 44 then Some Comma
    else if c == 124 then Some Bar
    else None

-- a dot before layout, `%` or the end of the text is an End
abbrev pub ends_clause : List ℕ → Bool
ends_clause [] = true
ends_clause (c ∷ cs) = is_layout c || (c == percent)

-- from a graphic character on
abbrev pub graphic_form : ℕ → List ℕ → TokenKind × List ℕ
graphic_form c cs = if (c == dot) && ends_clause cs then (End, cs) else (Name, after_run Graphic cs)

-- an integer's form
abbrev pub integer_form : Option (ℕ × List ℕ) → Result (TokenKind × List ℕ) Fault
integer_form (Some number) =
    if nat_le number.0 largest then Ok (Integer, number.1) else Err NumberRange
integer_form None = Err BadToken

-- the form of characters between quotes
abbrev pub quotes_form : TokenKind → Result (List ℕ) Fault → Result (TokenKind × List ℕ) Fault
quotes_form kind (Ok rest) = Ok (kind, rest)
quotes_form kind (Err fault) = Err fault

-- the form of a character by itself
abbrev pub single_form : Option TokenKind → List ℕ → Result (TokenKind × List ℕ) Fault
single_form (Some kind) cs = Ok (kind, cs)
single_form None cs = Err BadToken

-- the token's kind and what follows it
unfoldable pub form : List ℕ → Result (TokenKind × List ℕ) Fault
form [] = Err BadToken
form (c ∷ cs) =
    if is_name_start c then Ok (Name, after_run Continuing cs)
    else if is_variable_start c then Ok (Variable, after_run Continuing cs)
    else if is_digit c 10 then integer_form (integer (c ∷ cs))
    else if c == quote then quotes_form Quoted (after_closing (inside quote cs))
    else if c == double_quote then quotes_form Codes (after_closing (inside double_quote cs))
    else if is_graphic c then Ok (graphic_form c cs)
    else single_form (single c) cs

-- the characters before what follows
abbrev pub before : List ℕ → List ℕ → List ℕ
before cs rest = take (length cs - length rest) cs

-- the token's own characters
abbrev pub spelled : List ℕ → List ℕ
spelled cs = elim (form cs) [ Ok found ↦ before cs found.1 | Err fault ↦ [] ]

-- what the inside of quotes stands for, from the opening quote on
abbrev pub quoted_name : List ℕ → List ℕ
quoted_name [] = []
quoted_name (c ∷ cs) = stood_for (inside c cs)

-- the name of a Name or Variable, or what a Quoted or Codes token stands for; none for other kinds
unfoldable pub name_of : TokenKind → List ℕ → List ℕ
name_of Name cs = spelled cs
name_of Variable cs = spelled cs
name_of Quoted cs = quoted_name cs
name_of Codes cs = quoted_name cs
name_of kind cs = []

-- the value of a number that was found
abbrev pub number_value : Option (ℕ × List ℕ) → ℕ
number_value (Some number) = number.0
number_value None = 0

-- the value of an Integer; 0 for other kinds
unfoldable pub value_of : TokenKind → List ℕ → ℕ
value_of Integer cs = number_value (integer cs)
value_of kind cs = 0

-- the kinds that have a name
abbrev pub has_name : TokenKind → Bool
has_name Name = true
has_name Quoted = true
has_name Variable = true
has_name Codes = true
has_name kind = false

-- from an opening quote on, the quotes close
abbrev pub closes : List ℕ → Bool
closes [] = true
closes (c ∷ cs) = is_ok (inside c cs)
