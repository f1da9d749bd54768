-- Classes of characters, and runs of characters of one class.
use Rattle.std.specs.Prelude.{ℕ, Bool, false, not, codes, ◌&&◌, ◌||◌, ◌==◌, List, [], ◌∷◌}
use Rattle.std.specs.Prelude.{if◌then◌else◌}
use Rattle.std.specs.List.{list_any, list_all}
use Rattle.std.specs.Int.{is_in_range}
use Rattle.std.specs.Char.{is_ascii_uppercase}
use Rattle.unicode_ident.specs.Ident.{is_xid_start, is_xid_continue}
use Rattle.tp_lex.specs.declared.chars.Class.{Class}
use Rattle.tp_lex.specs.declared.chars.Class.TheVariants.{Continuing, Graphic}

abbrev pub newline : ℕ
newline = 10

abbrev pub double_quote : ℕ
double_quote = 34

abbrev pub percent : ℕ
percent = 37

abbrev pub quote : ℕ
quote = 39

abbrev pub star : ℕ
star = 42

abbrev pub dot : ℕ
dot = 46

abbrev pub slash : ℕ
slash = 47

abbrev pub backslash : ℕ
backslash = 92

-- tab, newline, vertical tab, form feed, carriage return and space
abbrev pub is_layout : ℕ → Bool
is_layout c = is_in_range 9 13 c || (c == 32)

-- `+ - * / \ ^ < > = ~ : . ? @ # & $`
abbrev pub graphic_characters : List ℕ
graphic_characters = codes "+-*/\\^<>=~:.?@#&$"

abbrev pub is_graphic : ℕ → Bool
is_graphic c = list_any (λ graphic. graphic == c) graphic_characters

-- a letter-digit name begins with it
abbrev pub is_name_start : ℕ → Bool
is_name_start c = is_xid_start c && not (is_ascii_uppercase c)

-- a variable begins with it: `_` or an ASCII capital
abbrev pub is_variable_start : ℕ → Bool
is_variable_start c = (c == 95) || is_ascii_uppercase c

abbrev pub is_in_class : Class → ℕ → Bool
is_in_class Continuing c = is_xid_continue c
is_in_class Graphic c = is_graphic c

-- a letter-digit name: a character that begins one, and only characters that go on with it
abbrev pub is_letter_digit : List ℕ → Bool
is_letter_digit [] = false
is_letter_digit (c ∷ cs) = is_name_start c && list_all (is_in_class Continuing) cs

-- what follows as many characters of a class as follow each other
unfoldable pub after_run : Class → List ℕ → List ℕ
after_run class [] = []
after_run class (c ∷ cs) = if is_in_class class c then after_run class cs else c ∷ cs
