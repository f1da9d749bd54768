-- The next token of a text, with its bytes.
use Rattle.std.specs.Prelude.{◌≡◌, ℕ, ◌-◌, ◌<◌, ◌≤◌, List, [], ◌∷◌, length, drop, chars}
use Rattle.std.specs.Prelude.{encode_utf8_all, Option, Some, None, Result, Ok, Err}
use Rattle.std.specs.Str.{IsCharBoundary}
use Rattle.tp_lex.specs.Layout.{past_layout}
use Rattle.tp_lex.specs.Form.{form, name_of, value_of}
use Rattle.tp_lex.specs.declared.token.Fault.{Fault}
use Rattle.tp_lex.specs.declared.token.TokenKind.{TokenKind}
use Rattle.tp_lex.specs.declared.token.Token.{Token}
use Rattle.tp_lex.specs.declared.token.LexFault.{LexFault}
use Rattle.tp_lex.specs.declared.token.Fault.TheVariants as fault
use Rattle.tp_lex.specs.declared.token.LexFault.TheVariants as at_byte

-- the characters of a text from a byte on
abbrev pub from_byte : List ℕ → ℕ → List ℕ
from_byte text at = chars (drop at text)

-- the byte at which the last characters of a text begin
abbrev pub byte_of : List ℕ → List ℕ → ℕ
byte_of text rest = length text - length (encode_utf8_all rest)

-- a fault with its byte
abbrev pub fault_at : Fault → ℕ → LexFault
fault_at fault.BadToken byte = at_byte.BadToken byte
fault_at fault.NumberRange byte = at_byte.NumberRange byte
fault_at fault.Unfinished byte = at_byte.Unfinished byte

-- a form that begins with these characters, with its bytes
abbrev pub placed : List ℕ → List ℕ → Result (TokenKind × List ℕ) Fault
    → Result (Option Token) LexFault
placed text start (Ok found) =
    Ok (Some (record { kind = found.0; from = byte_of text start; to = byte_of text found.1 }))
placed text start (Err flaw) = Err (fault_at flaw (byte_of text start))

-- the token behind layout and comments, if there is one
abbrev pub token_in : List ℕ → Result (List ℕ) (List ℕ) → Result (Option Token) LexFault
token_in text (Ok []) = Ok None
token_in text (Ok (c ∷ cs)) = placed text (c ∷ cs) (form (c ∷ cs))
token_in text (Err comment) = Err (at_byte.Unfinished (byte_of text comment))

-- the next token from a byte on, none where only layout and comments remain, or the fault
unfoldable pub next : List ℕ → ℕ → Result (Option Token) LexFault
next text at = token_in text (past_layout (from_byte text at))

-- the token stands behind a byte, and the text may be read on from its end
pub record StandsBehind (text : List ℕ) (at : ℕ) (token : Token) : Type 0 where
  pub begins : at ≤ token.from
  pub ends : token.from < token.to
  pub next_place : IsCharBoundary text token.to

-- the token is one that stands in the text: what is next from some byte on
pub record IsTokenOf (text : List ℕ) (token : Token) : Type 0 where
  pub at : ℕ
  pub place : IsCharBoundary text at
  pub found : next text at ≡ Ok (Some token)

-- the name of a token of the text, or what its inside stands for
abbrev pub token_name : List ℕ → Token → List ℕ
token_name text token = name_of token.kind (from_byte text token.from)

-- the value of a token of the text
abbrev pub token_value : List ℕ → Token → ℕ
token_value text token = value_of token.kind (from_byte text token.from)
