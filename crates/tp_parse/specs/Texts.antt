-- The clause that stands in a text from a byte on, and the goal of a text; or the one refusal.
use Rattle.std.specs.Prelude.{◌≡◌, ℕ, Bool, List, [], ◌∷◌, length, Option, Some, None, Result, Ok}
use Rattle.std.specs.Prelude.{Err, if◌then◌else◌}
use Rattle.tp_terms.specs.Term.{Term}
use Rattle.tp_lex.specs.Next.{next}
use Rattle.tp_lex.specs.Tokens.{Lexed, is_end, tokens, goal_tokens}
use Rattle.tp_lex.specs.declared.token.Token.{Token}
use Rattle.tp_lex.specs.declared.token.LexFault.{LexFault}
use Rattle.tp_lex.specs.declared.token.LexFault.TheVariants as lexing
use Rattle.tp_parse.specs.Tree.{Tree}
use Rattle.tp_parse.specs.Table.{Table}
use Rattle.tp_parse.specs.Reading.{Read, Stop, clause_reading, goal_reading}
use Rattle.tp_parse.specs.Numbers.{Numbers, no_numbers, numbered}
use Rattle.tp_parse.specs.declared.fault.ReadCause.{ReadCause}
use Rattle.tp_parse.specs.declared.fault.ReadCause.TheVariants as cause

-- a term that was read: its variables numbered, the named ones with their numbers, how many there
-- are, the byte at which its first token begins, and the byte after its last token
pub record Found : Type 0 where
  pub term : Term
  pub named : List (List ℕ × ℕ)
  pub vars : ℕ
  pub from : ℕ
  pub to : ℕ

-- the byte, and the cause
abbrev pub Refusal : Type 0
Refusal = ℕ × ReadCause

abbrev pub refused_token : LexFault → Refusal
refused_token (lexing.BadToken byte) = (byte, cause.Token)
refused_token (lexing.NumberRange byte) = (byte, cause.Number)
refused_token (lexing.Unfinished byte) = (byte, cause.Unfinished)

-- a token stands behind a byte of the text
pub record HasToken (text : List ℕ) (at : ℕ) : Type 0 where
  pub token : Token
  pub found : next text at ≡ Ok (Some token)

-- the byte of the first of these tokens, and that of the end where there is none
abbrev pub byte_at : ℕ → List Lexed → ℕ
byte_at end [] = end
byte_at end (t ∷ ts) = t.from

-- a stop's refusal, in a text of so many bytes
abbrev pub refused : ℕ → Stop → Refusal
refused end s = (byte_at end s.1, s.0)

-- the byte after the last of these tokens
abbrev pub last_byte : Lexed → List Lexed → ℕ
last_byte t [] = t.to
last_byte t (u ∷ us) = last_byte u us

-- the last of these tokens is an End
abbrev pub is_ended : Lexed → List Lexed → Bool
is_ended t [] = is_end t.kind
is_ended t (u ∷ us) = is_ended u us

abbrev pub found_by : ℕ → ℕ → Term × Numbers → Found
found_by from to r = record {
  term = r.0;
  named = (r.1).named;
  vars = (r.1).vars;
  from = from;
  to = to;
}

-- the term of a tree that was read from these tokens
abbrev pub found : Lexed → List Lexed → Tree → Found
found t ts tree = found_by t.from (last_byte t ts) (numbered tree no_numbers)

abbrev pub clause_by : ℕ → Lexed → List Lexed → Read Tree → Result (Option Found) Refusal
clause_by end t ts (Ok tree) = Ok (Some (found t ts tree))
clause_by end t ts (Err s) = Err (refused end s)

abbrev pub clause_in : Table → ℕ → Result (List Lexed) LexFault → Result (Option Found) Refusal
clause_in ops end (Err fault) = Err (refused_token fault)
clause_in ops end (Ok []) = Ok None
clause_in ops end (Ok (t ∷ ts)) =
    if is_ended t ts then clause_by end t ts (clause_reading ops (t ∷ ts))
    else Err (end, cause.Unfinished)

-- The clause from a byte of the text on, none where no token remains. First its tokens are taken,
-- up to and with the first End.
unfoldable pub clause_of : Table → List ℕ → ℕ → Result (Option Found) Refusal
clause_of ops text at = clause_in ops (length text) (tokens text at)

abbrev pub goal_by : ℕ → List Lexed → Read Tree → Result Found Refusal
goal_by end [] (Ok tree) = Ok (found_by end end (numbered tree no_numbers))
goal_by end (t ∷ ts) (Ok tree) = Ok (found t ts tree)
goal_by end ts (Err s) = Err (refused end s)

abbrev pub goal_in : Table → ℕ → Result (List Lexed) LexFault → Result Found Refusal
goal_in ops end (Err fault) = Err (refused_token fault)
goal_in ops end (Ok ts) = goal_by end ts (goal_reading ops ts)

-- the goal of a whole text
unfoldable pub goal_of : Table → List ℕ → Result Found Refusal
goal_of ops text = goal_in ops (length text) (goal_tokens text)
