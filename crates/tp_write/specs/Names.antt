-- The written form of a name.
use Rattle.std.specs.Prelude.{ℕ, Bool, false, not, ◌&&◌, ◌||◌, ◌==◌, nat_lt, List, [], ◌∷◌, ◌++◌}
use Rattle.std.specs.Prelude.{codes, if◌then◌else◌}
use Rattle.std.specs.List.{list_all}
use Rattle.std.specs.Fmt.{digits}
use Rattle.tp_terms.specs.Term.{Name, names_eq}
use Rattle.tp_lex.specs.Characters.{quote, dot, slash, star, backslash, is_graphic, is_letter_digit}

-- the name begins with `/*`
abbrev pub begins_comment : Name → Bool
begins_comment (c ∷ d ∷ cs) = (c == slash) && (d == star)
begins_comment n = false

-- graphic characters, one at least, that are neither `.` alone nor the beginning of a comment
abbrev pub is_graphic_name : Name → Bool
is_graphic_name [] = false
is_graphic_name (c ∷ cs) =
    list_all is_graphic (c ∷ cs)
    && (not (names_eq (c ∷ cs) (dot ∷ [])) && not (begins_comment (c ∷ cs)))

-- the name is one of those that stand alone: `[]`, `{}`, `!` and `;`
abbrev pub is_solo : Name → Bool
is_solo n =
    (names_eq n (codes "[]") || names_eq n (codes "{}"))
    || (names_eq n (codes "!") || names_eq n (codes ";"))

-- the name is written without quotes
abbrev pub is_bare : Name → Bool
is_bare n = is_letter_digit n || (is_solo n || is_graphic_name n)

-- ---- escapes

-- a control character of ASCII
abbrev pub is_control : ℕ → Bool
is_control c = nat_lt c 32 || (c == 127)

-- the escape of a code in hexadecimal digits
abbrev pub code_escape : ℕ → List ℕ
code_escape c = codes "\\x" ++ (digits 16 false c ++ codes "\\")

-- the escape of a control character without its last digit and the closing backslash
abbrev pub escape_start : ℕ → List ℕ
escape_start c =
    if nat_lt c 16 then codes "\\x"
    else if nat_lt c 32 then codes "\\x1"
    else codes "\\x7"

-- a character that has no escape of one letter
abbrev pub coded : ℕ → List ℕ
coded c = if is_control c then code_escape c else c ∷ []

-- a character between quotes
abbrev pub escaped : ℕ → List ℕ
escaped c =
    if c == backslash then codes "\\\\"
    else if c == quote then codes "\\'"
    else if c == 7 then codes "\\a"
    else if c == 8 then codes "\\b"
    else if c == 9 then codes "\\t"
    else if c == 10 then codes "\\n"
    else if c == 11 then codes "\\v"
    else if c == 12 then codes "\\f"
    else if c == 13 then codes "\\r"
    else coded c

-- so each character of a list
abbrev pub all_escaped : List ℕ → List ℕ
all_escaped [] = []
all_escaped (c ∷ cs) = escaped c ++ all_escaped cs

-- the name between quotes
abbrev pub quoted : Name → List ℕ
quoted n = quote ∷ (all_escaped n ++ quote ∷ [])

-- the written form of a name: as it stands where it needs no quotes, and else between quotes
unfoldable pub name_text : Name → List ℕ
name_text n = if is_bare n then n else quoted n
