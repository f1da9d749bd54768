-- Tokens at hand: each with what the table of operators holds of its name.
use Rattle.std.specs.Prelude.{◌≡◌, ℕ, Bool, true, false, not, ◌&&◌, List, [], ◌∷◌, map, Option}
use Rattle.std.specs.Prelude.{Some, None, Result, Ok, Err, codes, is_some, is_none, if◌then◌else◌}
use Rattle.tp_terms.specs.Term.{Name}
use Rattle.tp_lex.specs.Next.{IsTokenOf, token_name, token_value}
use Rattle.tp_lex.specs.Tokens.{Lexed, Reach, ToEnd, ToTextEnd, stops_at, with_token}
use Rattle.tp_lex.specs.declared.token.TokenKind.{TokenKind}
use Rattle.tp_lex.specs.declared.token.TokenKind.TheVariants as kind
use Rattle.tp_lex.specs.declared.token.LexFault.{LexFault}
use Rattle.tp_parse.specs.Table.{Op, Table}
use Rattle.tp_parse.specs.Ahead.{is_open, is_integer}
use Rattle.tp_parse.specs.Texts.{refused_token}
use Rattle.tp_parse.specs.declared.fault.ReadFault.{ReadFault}
use Rattle.tp_parse.specs.declared.fault.ReadFault.TheVariants.{Refused, NoMemory}
use Rattle.tp_parse.specs.declared.words.Word.{Word}
use Rattle.tp_parse.specs.declared.words.Extent.{Extent}
use Rattle.tp_parse.specs.declared.words.Extent.TheVariants.{Clause, Whole}

-- the token of a text that a word is
abbrev pub lexed_of : List ℕ → Word → Lexed
lexed_of text w = record {
  kind = w.token.kind;
  from = w.token.from;
  to = w.token.to;
  name = token_name text w.token;
  value = token_value text w.token;
  direct = w.direct;
}

abbrev pub ahead : List ℕ → List Word → List Lexed
ahead text = map (lexed_of text)

-- the operators of a token's name
abbrev pub prefix_by : Table → TokenKind → Name → Option Op
prefix_by ops kind.Name name = ops.prefixes name
prefix_by ops kind.Quoted name = ops.prefixes name
prefix_by ops k name = None

abbrev pub infix_by : Table → TokenKind → Name → Option Op
infix_by ops kind.Name name = ops.infixes name
infix_by ops kind.Quoted name = ops.infixes name
infix_by ops kind.Comma name = ops.infixes (codes ",")
infix_by ops k name = None

-- a token of the text, with the operators of its name
pub record IsKnown (ops : Table) (text : List ℕ) (w : Word) : Type 0 where
  pub given : IsTokenOf text w.token
  pub before : w.as_prefix ≡ prefix_by ops w.token.kind (token_name text w.token)
  pub between : w.as_infix ≡ infix_by ops w.token.kind (token_name text w.token)

abbrev pub AreKnown : Table → List ℕ → List Word → Type 0
AreKnown ops text [] = Unit {0}
AreKnown ops text (w ∷ ws) = IsKnown ops text w × AreKnown ops text ws

abbrev pub reach_of : Extent → Reach
reach_of Clause = ToEnd
reach_of Whole = ToTextEnd

-- what taking the words of a text answers, where memory wasn't refused
abbrev pub TellsWords : {X : Type 0} → (X → List Word) → List ℕ → Result X ReadFault →
    Result (List Lexed) LexFault → Type 0
TellsWords view text (Ok words) r = r ≡ Ok (ahead text (view words))
TellsWords view text (Err (Refused byte cause)) r =
    (fault : LexFault) × (r ≡ Err fault) × (refused_token fault ≡ (byte, cause))
TellsWords view text (Err NoMemory) r = Unit {0}

-- what the next word says of the tokens of a text
abbrev pub TellsNext : Reach → List ℕ → (ℕ → Option ℕ → Result (List Lexed) LexFault) →
    Result (Option Word) ReadFault → Result (List Lexed) LexFault → Type 0
TellsNext reach text behind (Ok None) r = r ≡ Ok []
TellsNext reach text behind (Ok (Some w)) r =
    r ≡ (if stops_at reach w.token.kind then Ok (lexed_of text w ∷ [])
    else with_token (lexed_of text w) (behind w.token.to (Some w.token.to)))
TellsNext reach text behind (Err (Refused byte cause)) r =
    (fault : LexFault) × (r ≡ Err fault) × (refused_token fault ≡ (byte, cause))
TellsNext reach text behind (Err NoMemory) r = Unit {0}

-- ---- the words ahead

abbrev pub first_word : List Word → Option Word
first_word [] = None
first_word (w ∷ ws) = Some w

abbrev pub after_word : List Word → List Word
after_word [] = []
after_word (w ∷ ws) = ws

abbrev pub kind_of : Option Word → Option TokenKind
kind_of None = None
kind_of (Some w) = Some w.token.kind

abbrev pub opens_by : Option Word → Bool
opens_by None = false
opens_by (Some w) = is_open w.token.kind && w.direct

abbrev pub integer_by : Option Word → Bool
integer_by None = false
integer_by (Some w) = is_integer w.token.kind && w.direct

-- the word is an infix operator and no prefix operator
abbrev pub infix_alone : Word → Bool
infix_alone w = is_some w.as_infix && is_none w.as_prefix

abbrev pub atom_by : TokenKind → Word → Bool → Bool
atom_by kind.Close w opens = true
atom_by kind.CloseList w opens = true
atom_by kind.CloseCurly w opens = true
atom_by kind.Comma w opens = true
atom_by kind.Bar w opens = true
atom_by kind.End w opens = true
atom_by kind.Name w opens = infix_alone w && not opens
atom_by kind.Quoted w opens = infix_alone w && not opens
atom_by k w opens = false

abbrev pub atom_before : Option Word → Option Word → Bool
atom_before None second = false
atom_before (Some w) second = atom_by w.token.kind w (opens_by second)
