-- Escapes: what a backslash and the characters behind it stand for.
use Rattle.std.specs.Prelude.{ℕ, ◌&&◌, ◌||◌, ◌==◌, List, [], ◌∷◌, Option, Some, None, Result, Ok}
use Rattle.std.specs.Prelude.{Err, if◌then◌else◌}
use Rattle.std.specs.Char.{is_digit}
use lib.Utf8.{scalar}
use Rattle.tp_lex.specs.Characters.{newline, double_quote, quote, backslash}
use Rattle.tp_lex.specs.Digits.{number}
use Rattle.tp_lex.specs.declared.token.Fault.{Fault}
use Rattle.tp_lex.specs.declared.token.Fault.TheVariants.{BadToken, Unfinished}

-- `\a` is 7, `\b` 8, `\t` 9, `\n` 10, `\v` 11, `\f` 12, `\r` 13; a backslash, a quote of either
-- kind and a backquote stand for themselves
abbrev pub letter_escape : ℕ → Option ℕ
letter_escape c =
    if c == 97 then Some 7
    else if c == 98 then Some 8
    else if c == 116 then Some 9
    else if c == 110 then Some 10
    else if c == 118 then Some 11
    else if c == 102 then Some 12
    else if c == 114 then Some 13
    else if ((c == backslash) || (c == quote)) || ((c == double_quote) || (c == 96)) then Some c
    else None

-- a code that its closing backslash follows, which must be that of a character
abbrev pub closed_code : ℕ → List ℕ → Result (Option ℕ × List ℕ) Fault
closed_code value [] = Err Unfinished
closed_code value (c ∷ cs) =
    if (c == backslash) && scalar value then Ok (Some value, cs) else Err BadToken

-- one or more digits and a closing backslash
unfoldable pub code_escape : ℕ → List ℕ → Result (Option ℕ × List ℕ) Fault
code_escape base [] = Err Unfinished
code_escape base (c ∷ cs) =
    if is_digit c base then closed_code (number base (c ∷ cs)).0 (number base (c ∷ cs)).1
    else Err BadToken

-- a letter's escape
abbrev pub plain_escape : Option ℕ → List ℕ → Result (Option ℕ × List ℕ) Fault
plain_escape (Some code) cs = Ok (Some code, cs)
plain_escape None cs = Err BadToken

-- from behind the backslash: the character that stands there, none for a backslash at a line's end,
-- and what follows; `x` is 120; Unfinished where the characters end in the escape
unfoldable pub escape : List ℕ → Result (Option ℕ × List ℕ) Fault
escape [] = Err Unfinished
escape (c ∷ cs) =
    if c == newline then Ok (None, cs)
    else if c == 120 then code_escape 16 cs
    else if is_digit c 8 then code_escape 8 (c ∷ cs)
    else plain_escape (letter_escape c) cs
