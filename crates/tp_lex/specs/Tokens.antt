-- Tokens as whole lists.
use Rattle.std.specs.Prelude.{ℕ, zero, suc, Bool, true, false, ◌==◌, List, [], ◌∷◌, length, Option}
use Rattle.std.specs.Prelude.{Some, None, Result, Ok, Err}
use Rattle.tp_lex.specs.Next.{next, token_name, token_value}
use Rattle.tp_lex.specs.declared.token.TokenKind.{TokenKind}
use Rattle.tp_lex.specs.declared.token.TokenKind.TheVariants.{End}
use Rattle.tp_lex.specs.declared.token.Token.{Token}
use Rattle.tp_lex.specs.declared.token.LexFault.{LexFault}

-- a token: its kind, its bytes, its name or value, and whether it stands directly after the one
-- before
pub record Lexed : Type 0 where
  pub kind : TokenKind
  pub from : ℕ
  pub to : ℕ
  pub name : List ℕ
  pub value : ℕ
  pub direct : Bool

-- the first byte is the byte after the last of the token before, if there is one
abbrev pub stands_directly : Option ℕ → ℕ → Bool
stands_directly None from = false
stands_directly (Some end) from = end == from

-- a token of a text, after one that ends at a byte
abbrev pub lexed : List ℕ → Option ℕ → Token → Lexed
lexed text end token = record {
  kind = token.kind;
  from = token.from;
  to = token.to;
  name = token_name text token;
  value = token_value text token;
  direct = stands_directly end token.from;
}

abbrev pub is_end : TokenKind → Bool
is_end End = true
is_end kind = false

-- the tokens with one more before them
abbrev pub with_token : Lexed → Result (List Lexed) LexFault → Result (List Lexed) LexFault
with_token token (Ok more) = Ok (token ∷ more)
with_token token (Err fault) = Err fault

-- how far tokens are taken: up to and with the first End, or to the end of the text
pub data Reach : Type 0 where
  ToEnd : Reach
  ToTextEnd : Reach

abbrev pub stops_at : Reach → TokenKind → Bool
stops_at ToEnd kind = is_end kind
stops_at ToTextEnd kind = false

-- the tokens, by the next one and by those that stand behind a byte
abbrev pub tokens_by_next : Reach → List ℕ → Option ℕ
    → (ℕ → Option ℕ → Result (List Lexed) LexFault)
    → Result (Option Token) LexFault → Result (List Lexed) LexFault
tokens_by_next reach text end behind next_one =
    elim next_one [
      | Ok found ↦ elim found [
        | None ↦ Ok []
        | Some token ↦ elim (stops_at reach token.kind) [
          | true ↦ Ok (lexed text end token ∷ [])
          | false ↦ with_token (lexed text end token) (behind token.to (Some token.to))
        ]
      ]
      | Err fault ↦ Err fault
    ]

-- at most so many tokens of a text from a byte on, the token before them ending at a byte
unfoldable pub tokens_up_to : Reach → ℕ → List ℕ → ℕ → Option ℕ → Result (List Lexed) LexFault
tokens_up_to reach zero text at end = Ok []
tokens_up_to reach (suc most) text at end =
    tokens_by_next reach text end (tokens_up_to reach most text) (next text at)

-- the tokens of a text from a byte on, the token before them ending at a byte; or the fault that is
-- met first
unfoldable pub tokens_from : Reach → List ℕ → ℕ → Option ℕ → Result (List Lexed) LexFault
tokens_from reach text at end = tokens_up_to reach (length text) text at end

-- the tokens of a text from a byte on, up to and with the first End
abbrev pub tokens : List ℕ → ℕ → Result (List Lexed) LexFault
tokens text at = tokens_from ToEnd text at None

-- all tokens of a text
abbrev pub goal_tokens : List ℕ → Result (List Lexed) LexFault
goal_tokens text = tokens_from ToTextEnd text 0 None
