-- Pieces of which each is lexed as itself give their tokens.
use Rattle.std.proofs.Common.{◌≡◌, ℕ, ◌+◌, ◌≤◌, Bool, true, false, List, [], ◌∷◌, ◌++◌, length, encode_utf8, encode_utf8_all, Option, Some, None, Ok, refl, sym, ap, subst, ◌∙◌, arith, length-append}
use Rattle.std.specs.Prelude.{Result}
use Rattle.std.specs.Str.{IsUtf8, all_scalars}
use Rattle.std.proofs.lemmas.Bool.{eq-eqb, ne_eqb}
use Rattle.std.proofs.lemmas.Str.{chars-encodes, encode_ascii, IsCharBoundary-start}
use Rattle.tp_lex.specs.declared.token.Token.{Token}
use Rattle.tp_lex.specs.declared.token.LexFault.{LexFault}
use Rattle.tp_lex.specs.declared.token.TokenKind.{TokenKind}
use Rattle.tp_lex.specs.Layout.{after_gap, past_layout}
use Rattle.tp_lex.specs.Form.{form, name_of, value_of}
use Rattle.tp_lex.specs.Next.{byte_of, from_byte, placed, token_in, next}
use Rattle.tp_lex.specs.Tokens.{Lexed, ToEnd, stands_directly, lexed, is_end, with_token, tokens_from, tokens}
use Rattle.tp_lex.proofs.Places.Suffixes.{EndsWith, ends-same, ends-trans}
use Rattle.tp_lex.proofs.Forms.Gaps.{past_layout-goes, past_layout-stops}
use Rattle.tp_lex.proofs.Places.Bytes.{place_of}
use Rattle.tp_lex.proofs.TokensStand.Listed.{tokens-next}
use Rattle.tp_write.proofs.ReadsBack.Pieces.{Stand, First, Directly, Spaced, Piece, gap, is_direct, spelled, token, laid, places_in}
use Rattle.tp_write.proofs.ReadsBack.Lexed.Words.{Forms}

-- ---- pieces that are lexed as themselves

-- there are no pieces
abbrev pub is_none : List Piece → Bool
is_none [] = true
is_none (p ∷ ps) = false

-- where the first of some pieces stands
abbrev pub stand_of : List Piece → Stand
stand_of [] = First
stand_of (p ∷ ps) = p.stand

-- the pieces don't begin the text
abbrev pub is_later : Stand → Bool
is_later First = false
is_later Directly = true
is_later Spaced = true

abbrev pub Later : List Piece → Type 0
Later [] = Unit {0}
Later (p ∷ ps) = is_later p.stand ≡ true

-- a piece before others
pub record IsLexed (p : Piece) (ps : List Piece) : Type 0 where
  pub forms : Forms p (spelled ps)
  pub ends : is_end p.kind ≡ is_none ps
  pub later : Later ps

-- each of some pieces is lexed as itself
abbrev pub AreLexed : List Piece → Type 0
AreLexed [] = Unit {0}
AreLexed (p ∷ ps) = IsLexed p ps × AreLexed ps

-- ---- one token

space_goes : (cs : List ℕ) → after_gap (32 ∷ cs) ≡ Ok (Some cs)
unfolding after_gap
space_goes cs = refl

past_gap : (s : Stand) (cs : List ℕ) → after_gap cs ≡ Ok None → past_layout (gap s ++ cs) ≡ Ok cs
past_gap First cs e = past_layout-stops cs e
past_gap Directly cs e = past_layout-stops cs e
past_gap Spaced cs e = past_layout-goes (32 ∷ cs) cs (space_goes cs) ∙ past_layout-stops cs e

placed_in : (text own rest : List ℕ) (first : ℕ) (others : List ℕ) → own ≡ first ∷ others → token_in text (Ok (own ++ rest)) ≡ placed text (own ++ rest) (form (own ++ rest))
placed_in text own rest first others e = rw e refl

abbrev token_at : List ℕ → Piece → List Piece → Token
token_at text p ps = record { kind = p.kind; from = byte_of text (p.own ++ spelled ps); to = byte_of text (spelled ps) }

next_piece : (text : List ℕ) (at : ℕ) (p : Piece) (ps : List Piece) → Forms p (spelled ps) → from_byte text at ≡ spelled (p ∷ ps) → next text at ≡ Ok (Some (token_at text p ps))
unfolding next
next_piece text at p ps f e =
    ap (λ cs. token_in text (past_layout cs)) e
    ∙ ap (token_in text) (past_gap p.stand (p.own ++ spelled ps) f.gapless)
    ∙ placed_in text p.own (spelled ps) f.first f.others f.parts
    ∙ ap (placed text (p.own ++ spelled ps)) f.formed

-- ---- the token behind another

abbrev pub end_before : Stand → ℕ → Option ℕ
end_before First at = None
end_before Directly at = Some at
end_before Spaced at = Some at

space_bytes : (text cs : List ℕ) → length (encode_utf8_all (32 ∷ cs)) ≤ length text → byte_of text (32 ∷ cs) ≡ byte_of text cs → ⊥
space_bytes text cs short e =
    let size : length (encode_utf8_all (32 ∷ cs)) ≡ length (encode_utf8 32) + length (encode_utf8_all cs) = length-append (encode_utf8 32) (encode_utf8_all cs) in
    let one : length (encode_utf8 32) ≡ 1 = ap length (encode_ascii 32 (omega arith)) in
    omega arith

direct_by : (text : List ℕ) (s : Stand) (cs : List ℕ) → length (encode_utf8_all (gap s ++ cs)) ≤ length text → stands_directly (end_before s (byte_of text (gap s ++ cs))) (byte_of text cs) ≡ is_direct s
direct_by text First cs l = refl
direct_by text Directly cs l = eq-eqb (byte_of text cs) (byte_of text cs) refl
direct_by text Spaced cs l = ne_eqb (byte_of text (32 ∷ cs)) (byte_of text cs) (space_bytes text cs l)

abbrev lexed_by : TokenKind → ℕ → ℕ → List ℕ → ℕ → Bool → Lexed
lexed_by k from to name value direct = record { kind = k; from = from; to = to; name = name; value = value; direct = direct }

same_lexed : (k : TokenKind) (from to : ℕ) (n m : List ℕ) (v w : ℕ) (d e : Bool) → n ≡ m → v ≡ w → d ≡ e → lexed_by k from to n v d ≡ lexed_by k from to m w e
same_lexed k from to n m v w d e p q r = ap (λ x. lexed_by k from to x v d) p ∙ ap (λ x. lexed_by k from to m x d) q ∙ ap (λ x. lexed_by k from to m w x) r

-- where a text's characters end with these, a token stands there as its piece
lexed_piece : (text : List ℕ) (p : Piece) (ps : List Piece) → Forms p (spelled ps) → from_byte text (byte_of text (p.own ++ spelled ps)) ≡ p.own ++ spelled ps → length (encode_utf8_all (spelled (p ∷ ps))) ≤ length text →
    lexed text (end_before p.stand (byte_of text (spelled (p ∷ ps)))) (token_at text p ps) ≡ token (places_in text) p ps
lexed_piece text p ps f seen l =
    same_lexed p.kind (byte_of text (p.own ++ spelled ps)) (byte_of text (spelled ps)) _ p.name _ p.value _ (is_direct p.stand)
    (ap (name_of p.kind) seen ∙ f.named)
    (ap (value_of p.kind) seen ∙ f.valued)
    (direct_by text p.stand (p.own ++ spelled ps) l)

-- ---- all tokens

ends_own : (p : Piece) (ps : List Piece) → EndsWith (spelled (p ∷ ps)) (p.own ++ spelled ps)
ends_own p ps = record { front = gap p.stand; parts = refl }

ends_later : (p : Piece) (ps : List Piece) → EndsWith (p.own ++ spelled ps) (spelled ps)
ends_later p ps = record { front = p.own; parts = refl }

later_end : (ps : List Piece) (at : ℕ) → Later ps → is_none ps ≡ false → Some at ≡ end_before (stand_of ps) at
later_end [] at l n = cc
later_end (p ∷ ps) at l n = by p.stand l
  where
    by : (s : Stand) → is_later s ≡ true → Some at ≡ end_before s at
    by First e = cc
    by Directly e = refl
    by Spaced e = refl

-- what is laid behind a token
abbrev TokensFrom : List ℕ → List Piece → Type 0
TokensFrom text ps = tokens_from ToEnd text (byte_of text (spelled ps)) (end_before (stand_of ps) (byte_of text (spelled ps))) ≡ Ok (laid (places_in text) ps)

abbrev chosen : Bool → Lexed → Result (List Lexed) LexFault → Result (List Lexed) LexFault
chosen b t more = elim b [ true ↦ Ok (t ∷ []) | false ↦ with_token t more ]

laid_step : (text : List ℕ) (p : Piece) (ps : List Piece) → IsLexed p ps → (is_none ps ≡ false → TokensFrom text ps) →
    chosen (is_end p.kind) (token (places_in text) p ps) (tokens_from ToEnd text (byte_of text (spelled ps)) (Some (byte_of text (spelled ps)))) ≡ Ok (laid (places_in text) (p ∷ ps))
laid_step text p [] i more = rw i.ends refl
laid_step text p (q ∷ qs) i more =
    let at : ℕ = byte_of text (spelled (q ∷ qs)) in
    let behind : tokens_from ToEnd text at (Some at) ≡ Ok (laid (places_in text) (q ∷ qs)) =
    ap (tokens_from ToEnd text at) (later_end (q ∷ qs) at i.later refl) ∙ more refl in
    ap (λ b. chosen b (token (places_in text) p (q ∷ qs)) (tokens_from ToEnd text at (Some at))) i.ends
    ∙ ap (with_token (token (places_in text) p (q ∷ qs))) behind

pub tokens_laid : (text : List ℕ) → IsUtf8 text → (ps : List Piece) → AreLexed ps → is_none ps ≡ false → EndsWith (from_byte text 0) (spelled ps) → TokensFrom text ps
tokens_laid text u [] a n e = cc
tokens_laid text u (p ∷ ps) a n e =
    let start = IsCharBoundary-start text u in
    let own_ends = ends-trans (from_byte text 0) (spelled (p ∷ ps)) (p.own ++ spelled ps) e (ends_own p ps) in
    let here = place_of text 0 (spelled (p ∷ ps)) u start e in
    let own = place_of text 0 (p.own ++ spelled ps) u start own_ends in
    let at : ℕ = byte_of text (spelled (p ∷ ps)) in
    let end : Option ℕ = end_before p.stand at in
    let later : ℕ = byte_of text (spelled ps) in
    tokens-next ToEnd text at end (Ok (Some (token_at text p ps))) u here.boundary (next_piece text at p ps a.0.forms here.seen)
    ∙ ap (λ t. chosen (is_end p.kind) t (tokens_from ToEnd text later (Some later))) (lexed_piece text p ps a.0.forms own.seen here.short)
    ∙ laid_step text p ps a.0 (λ some. tokens_laid text u ps a.1 some (ends-trans (from_byte text 0) (p.own ++ spelled ps) (spelled ps) own_ends (ends_later p ps)))

-- the tokens of a text that the pieces spell are the pieces
pub tokens_whole : (ps : List Piece) → AreLexed ps → is_none ps ≡ false → stand_of ps ≡ First → all_scalars (spelled ps) ≡ true →
    tokens (encode_utf8_all (spelled ps)) 0 ≡ Ok (laid (places_in (encode_utf8_all (spelled ps))) ps)
tokens_whole ps a n s c =
    let text : List ℕ = encode_utf8_all (spelled ps) in
    let whole : from_byte text 0 ≡ spelled ps = chars-encodes (spelled ps) c in
    let found = tokens_laid text (spelled ps, (c, refl)) ps a n (subst (λ l. EndsWith l (spelled ps)) (sym whole) (ends-same (spelled ps))) in
    let zero_byte : byte_of text (spelled ps) ≡ 0 = omega arith in
    let first : end_before (stand_of ps) (byte_of text (spelled ps)) ≡ None = ap (λ x. end_before x (byte_of text (spelled ps))) s in
    ap (λ o. tokens_from ToEnd text 0 o) (sym first)
    ∙ ap (λ at. tokens_from ToEnd text at (end_before (stand_of ps) (byte_of text (spelled ps)))) (sym zero_byte)
    ∙ found
