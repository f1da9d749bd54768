-- Integers: the value, without bound, and what follows.
use Rattle.std.specs.Prelude.{ℕ, ◌==◌, List, [], ◌∷◌, Option, Some, None, Result, Ok, Err}
use Rattle.std.specs.Prelude.{if◌then◌else◌}
use Rattle.tp_lex.specs.Characters.{newline, quote, backslash}
use Rattle.tp_lex.specs.Digits.{number, begins_with_digit}
use Rattle.tp_lex.specs.Escapes.{escape}
use Rattle.tp_lex.specs.declared.token.Fault.{Fault}

-- behind `0''`: the quote must be doubled
abbrev pub doubled_quote : List ℕ → Option (ℕ × List ℕ)
doubled_quote [] = None
doubled_quote (c ∷ cs) = if c == quote then Some (quote, cs) else None

-- an escape that stands for a character
abbrev pub escaped_code : Result (Option ℕ × List ℕ) Fault → Option (ℕ × List ℕ)
escaped_code (Ok e) = elim e.0 [ Some c ↦ Some (c, e.1) | None ↦ None ]
escaped_code (Err fault) = None

-- behind `0'`: one character that is neither a quote, a backslash nor a newline, or a doubled
-- quote, or an escape other than a backslash at a line's end; anything else is no token
unfoldable pub character_code : List ℕ → Option (ℕ × List ℕ)
character_code [] = None
character_code (c ∷ cs) =
    if c == quote then doubled_quote cs
    else if c == backslash then escaped_code (escape cs)
    else if c == newline then None
    else Some (c, cs)

-- the base that the letter behind a zero names: `x`, `o` or `b`
abbrev pub base_of : ℕ → Option ℕ
base_of c =
    if c == 120 then Some 16
    else if c == 111 then Some 8
    else if c == 98 then Some 2
    else None

-- behind a zero and a letter that names a base: digits, or else the token is the zero alone
abbrev pub based : ℕ → List ℕ → List ℕ → ℕ × List ℕ
based base from_letter cs = if begins_with_digit base cs then number base cs else (0, from_letter)

-- behind a zero
unfoldable pub after_zero : List ℕ → Option (ℕ × List ℕ)
after_zero [] = Some (0, [])
after_zero (c ∷ cs) =
    if c == quote then character_code cs
    else elim (base_of c) [
      | Some base ↦ Some (based base (c ∷ cs) cs)
      | None ↦ Some (number 10 (c ∷ cs))
    ]

-- from the first digit on, 48 being `0`; none where it is no token
unfoldable pub integer : List ℕ → Option (ℕ × List ℕ)
integer [] = None
integer (c ∷ cs) = if c == 48 then after_zero cs else Some (number 10 (c ∷ cs))
