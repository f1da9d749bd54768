-- The tokens of a text stand where their bytes say.
use Rattle.std.proofs.Common.{◌≡◌, ℕ, ◌+◌, ◌-◌, ◌≤◌, subst, List, [], ◌∷◌, ◌++◌, length, take, drop, chars, encode_utf8_all, Some, Ok, Err, MatchResult, true, refl, sym, ap, ◌∙◌, arith, length-append, length-drop}
use Rattle.std.specs.Prelude.{Result}
use Rattle.std.specs.Str.{IsUtf8, IsCharBoundary, all_scalars}
use Rattle.std.proofs.lemmas.Str.{IsUtf8-drop, encodes-chars, scalars-chars, encodes-append, chars-encodes}
use Rattle.std.proofs.Math.Seq.{take-append_seam}
use Rattle.tp_lex.specs.declared.token.Fault.{Fault}
use Rattle.tp_lex.specs.declared.token.TokenKind.{TokenKind}
use Rattle.tp_lex.specs.declared.token.Token.{Token}
use Rattle.tp_lex.specs.Layout.{past_layout}
use Rattle.tp_lex.specs.Form.{form, spelled, before}
use Rattle.tp_lex.specs.Next.{byte_of, from_byte, placed, token_in, next, StandsBehind}
use Rattle.tp_lex.proofs.Places.Suffixes.{EndsWith, ends-cons, ends-trans}
use Rattle.tp_lex.proofs.StandsBehind.Ends.{OkEnd, past_layout-ends, form-ends}
use Rattle.tp_lex.proofs.Places.Bytes.{place_of, bytes-shorter, scalars-front}

-- what begins at a token's first byte is that token
pub record Formed (text : List ℕ) (token : Token) : Type 0 where
  pub begins : IsCharBoundary text token.from
  pub after : List ℕ
  pub formed : form (from_byte text token.from) ≡ Ok (token.kind, after)
  pub tail : EndsWith (from_byte text token.from) after
  pub ended : token.to ≡ byte_of text after

-- a token that stands behind a byte, and the characters from its end on
pub record Given (text : List ℕ) (at : ℕ) (token : Token) : Type 0 where
  pub formed : Formed text token
  pub stands : StandsBehind text at token
  pub seen : from_byte text token.to ≡ formed.after

abbrev token_at : List ℕ → List ℕ → TokenKind → List ℕ → Token
token_at text start kind after = record { kind = kind; from = byte_of text start; to = byte_of text after }

given-at : (text : List ℕ) (at c : ℕ) (cs after : List ℕ) (kind : TokenKind) → IsUtf8 text → IsCharBoundary text at → EndsWith (from_byte text at) (c ∷ cs) → form (c ∷ cs) ≡ Ok (kind, after) → EndsWith cs after → Given text at (token_at text (c ∷ cs) kind after)
given-at text at c cs after kind u b e f tail =
    let start = place_of text at (c ∷ cs) u b e in
    let end = place_of text at after u b (ends-trans (from_byte text at) (c ∷ cs) after e (ends-cons c cs after tail)) in
    let longer = bytes-shorter c cs after tail in
    record {
      formed = record {
        begins = start.boundary;
        after = after;
        formed = ap form start.seen ∙ f;
        tail = subst (λ l. EndsWith l after) (sym start.seen) (ends-cons c cs after tail);
        ended = refl;
      };
      stands = record { begins = start.behind; ends = let s = start.short in omega arith; next_place = end.boundary };
      seen = end.seen;
    }

given-placed : (text : List ℕ) (at c : ℕ) (cs : List ℕ) (token : Token) → IsUtf8 text → IsCharBoundary text at → EndsWith (from_byte text at) (c ∷ cs) → (f : Result (TokenKind × List ℕ) Fault) → form (c ∷ cs) ≡ f → OkEnd cs f → placed text (c ∷ cs) f ≡ Ok (Some token) → Given text at token
given-placed text at c cs token u b e (Err flaw) q o p = cc
given-placed text at c cs token u b e (Ok (kind, after)) q o p =
    let same : token_at text (c ∷ cs) kind after ≡ token = cc in
    subst (Given text at) same (given-at text at c cs after kind u b e q o)

pub given : (text : List ℕ) (at : ℕ) (token : Token) → IsUtf8 text → IsCharBoundary text at → next text at ≡ Ok (Some token) → Given text at token
unfolding next
given text at token u b p = by (past_layout (from_byte text at)) (past_layout-ends (from_byte text at)) p
  where
    by : (r : Result (List ℕ) (List ℕ)) → MatchResult r (EndsWith (from_byte text at)) (EndsWith (from_byte text at)) → token_in text r ≡ Ok (Some token) → Given text at token
    by (Ok []) m p = cc
    by (Ok (c ∷ cs)) m p = given-placed text at c cs token u b m (form (c ∷ cs)) refl (form-ends c cs) p
    by (Err comment) m p = cc

pub spelled-of : (cs : List ℕ) (kind : TokenKind) (after : List ℕ) → form cs ≡ Ok (kind, after) → spelled cs ≡ before cs after
spelled-of cs kind after e = rw (e, spelled)

-- the bytes of a token are those of its own characters
pub slice-spelled : (text : List ℕ) (token : Token) → IsUtf8 text → Formed text token → chars (take (token.to - token.from) (drop token.from text)) ≡ spelled (from_byte text token.from)
slice-spelled text token u f =
    let start : List ℕ = from_byte text token.from in
    let front : List ℕ = f.tail.front in
    let here = IsUtf8-drop text token.from u f.begins in
    let split : start ≡ front ++ f.after = f.tail.parts in
    let fits : all_scalars front ≡ true = scalars-front front f.after (ap all_scalars (sym split) ∙ scalars-chars (drop token.from text) here) in
    let bytes : drop token.from text ≡ encode_utf8_all front ++ encode_utf8_all f.after =
    sym (encodes-chars (drop token.from text) here) ∙ ap encode_utf8_all split ∙ encodes-append front f.after in
    let inside : token.from ≤ length text = f.begins.0 in
    let size : length (drop token.from text) ≡ length (encode_utf8_all front) + length (encode_utf8_all f.after) =
    ap length bytes ∙ length-append (encode_utf8_all front) (encode_utf8_all f.after) in
    let dropped = length-drop token.from text in
    let ended = f.ended in
    let width : token.to - token.from ≡ length (encode_utf8_all front) = omega arith in
    let left : chars (take (token.to - token.from) (drop token.from text)) ≡ front =
    ap (λ n. chars (take n (drop token.from text))) width
    ∙ ap (λ l. chars (take (length (encode_utf8_all front)) l)) bytes
    ∙ ap chars (take-append_seam (encode_utf8_all front) (encode_utf8_all f.after))
    ∙ chars-encodes front fits in
    let count : length start ≡ length front + length f.after = ap length split ∙ length-append front f.after in
    let own : before start f.after ≡ front =
    ap (λ n. take n start) (let n : length start - length f.after ≡ length front = omega arith in n)
    ∙ ap (take (length front)) split ∙ take-append_seam front f.after in
    left ∙ sym own ∙ sym (spelled-of start token.kind f.after f.formed)
