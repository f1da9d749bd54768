-- What stands ahead in a list of tokens.
use Rattle.std.specs.Prelude.{ℕ, Bool, true, false, not, ◌&&◌, List, [], ◌∷◌, Option, Some, None}
use Rattle.std.specs.Prelude.{codes, is_some, is_none}
use Rattle.tp_terms.specs.Term.{Name, names_eq}
use Rattle.tp_lex.specs.Tokens.{Lexed}
use Rattle.tp_lex.specs.declared.token.TokenKind.{TokenKind}
use Rattle.tp_lex.specs.declared.token.TokenKind.TheVariants as kind
use Rattle.tp_parse.specs.Table.{Op, Table}

abbrev pub first_kind : List Lexed → Option TokenKind
first_kind [] = None
first_kind (t ∷ ts) = Some t.kind

abbrev pub after_first : List Lexed → List Lexed
after_first [] = []
after_first (t ∷ ts) = ts

abbrev pub is_open : TokenKind → Bool
is_open kind.Open = true
is_open k = false

abbrev pub is_integer : TokenKind → Bool
is_integer kind.Integer = true
is_integer k = false

-- an open parenthesis stands there, directly after the token before
abbrev pub opens_directly : List Lexed → Bool
opens_directly [] = false
opens_directly (t ∷ ts) = is_open t.kind && t.direct

-- an integer stands there, directly after the token before
abbrev pub is_integer_directly : List Lexed → Bool
is_integer_directly [] = false
is_integer_directly (t ∷ ts) = is_integer t.kind && t.direct

abbrev pub first_value : List Lexed → ℕ
first_value [] = 0
first_value (t ∷ ts) = t.value

-- the name `-`, without quotes
abbrev pub is_minus_by : TokenKind → Name → Bool
is_minus_by kind.Name name = names_eq name (codes "-")
is_minus_by k name = false

abbrev pub is_minus : Lexed → Bool
is_minus t = is_minus_by t.kind t.name

-- what an infix operator would be called: the name of a Name or Quoted, and `,` of a Comma
abbrev pub infix_name_by : TokenKind → Name → Option Name
infix_name_by kind.Name name = Some name
infix_name_by kind.Quoted name = Some name
infix_name_by kind.Comma name = Some (codes ",")
infix_name_by k name = None

abbrev pub with_op_of : Name → Option Op → Option (Name × Op)
with_op_of name None = None
with_op_of name (Some o) = Some (name, o)

abbrev pub named_infix : Table → Option Name → Option (Name × Op)
named_infix ops None = None
named_infix ops (Some name) = with_op_of name (ops.infixes name)

-- the infix operator that stands there, with its name
unfoldable pub infix_ahead : Table → List Lexed → Option (Name × Op)
infix_ahead ops [] = None
infix_ahead ops (t ∷ ts) = named_infix ops (infix_name_by t.kind t.name)

-- the name is an infix operator and no prefix operator
abbrev pub is_infix_alone : Table → Name → Bool
is_infix_alone ops name = is_some (ops.infixes name) && is_none (ops.prefixes name)

abbrev pub is_atom_by : Table → TokenKind → Name → Bool → Bool
is_atom_by ops kind.Close name opens = true
is_atom_by ops kind.CloseList name opens = true
is_atom_by ops kind.CloseCurly name opens = true
is_atom_by ops kind.Comma name opens = true
is_atom_by ops kind.Bar name opens = true
is_atom_by ops kind.End name opens = true
is_atom_by ops kind.Name name opens = is_infix_alone ops name && not opens
is_atom_by ops kind.Quoted name opens = is_infix_alone ops name && not opens
is_atom_by ops k name opens = false

-- A name that is a prefix operator is an atom before these tokens: before a token that ends a term,
-- and before an infix operator that is no prefix operator and has no open parenthesis directly
-- after it.
unfoldable pub is_atom_before : Table → List Lexed → Bool
is_atom_before ops [] = false
is_atom_before ops (t ∷ ts) = is_atom_by ops t.kind t.name (opens_directly ts)
