-- The bytes at which the ends of a text's characters begin.
use Rattle.std.proofs.Common.{◌≡◌, ℕ, ◌+◌, ◌<◌, ◌≤◌, Bool, true, false, ◌&&◌, subst, List, [], ◌∷◌, ◌++◌, length, take, drop, chars, encode_utf8, encode_utf8_all, refl, sym, ap, ◌∙◌, arith, append_assoc, length-append}
use Rattle.std.specs.Str.{IsUtf8, IsCharBoundary, all_scalars}
use Rattle.std.proofs.lemmas.List.{take-append-drop, length-take-le}
use Rattle.std.proofs.Math.Seq.{drop-append_seam}
use lib.Utf8.{scalar}
use Rattle.std.proofs.lemmas.Str.{IsUtf8-drop, encodes-chars, scalars-chars, encodes-append, IsCharBoundary-at_seam, chars-encodes, length-encode, len_utf8_bounds}
use Rattle.tp_lex.specs.Next.{byte_of, from_byte}
use Rattle.tp_lex.proofs.Places.Suffixes.{EndsWith}

pub both_true : (a b : Bool) → (a && b) ≡ true → (a ≡ true) × (b ≡ true)
both_true true true e = (refl, refl)
both_true true false e = cc
both_true false b e = cc

pub scalars-end : (front rest : List ℕ) → all_scalars (front ++ rest) ≡ true → all_scalars rest ≡ true
scalars-end [] rest e = e
scalars-end (c ∷ front) rest e = scalars-end front rest (both_true (scalar c) _ e).1

pub scalars-front : (front rest : List ℕ) → all_scalars (front ++ rest) ≡ true → all_scalars front ≡ true
scalars-front [] rest e = refl
scalars-front (c ∷ front) rest e =
    let b = both_true (scalar c) _ e in
    let more = scalars-front front rest b.1 in
    ap (λ t. t && all_scalars front) b.0 ∙ more

-- where the rest of a text's characters begins
pub record IsPlace (text : List ℕ) (at : ℕ) (rest : List ℕ) : Type 0 where
  pub short : length (encode_utf8_all rest) ≤ length text
  pub behind : at ≤ byte_of text rest
  pub boundary : IsCharBoundary text (byte_of text rest)
  pub bytes : drop (byte_of text rest) text ≡ encode_utf8_all rest
  pub seen : from_byte text (byte_of text rest) ≡ rest

pub place_of : (text : List ℕ) (at : ℕ) (rest : List ℕ) → IsUtf8 text → IsCharBoundary text at → EndsWith (from_byte text at) rest → IsPlace text at rest
place_of text at rest u b e =
    let here = IsUtf8-drop text at u b in
    let fits : all_scalars rest ≡ true = scalars-end e.front rest (ap all_scalars (sym e.parts) ∙ scalars-chars (drop at text) here) in
    let bytes : drop at text ≡ encode_utf8_all e.front ++ encode_utf8_all rest =
    sym (encodes-chars (drop at text) here) ∙ ap encode_utf8_all e.parts ∙ encodes-append e.front rest in
    let pre : List ℕ = take at text ++ encode_utf8_all e.front in
    let after : List ℕ = encode_utf8_all rest in
    let whole : text ≡ pre ++ after =
    sym (take-append-drop at text) ∙ ap (λ l. take at text ++ l) bytes ∙ sym (append_assoc (take at text) (encode_utf8_all e.front) after) in
    let inside : at ≤ length text = b.0 in
    let size : length text ≡ length pre + length after = ap length whole ∙ length-append pre after in
    let size_pre : length pre ≡ length (take at text) + length (encode_utf8_all e.front) = length-append (take at text) (encode_utf8_all e.front) in
    let first : length (take at text) ≡ at = length-take-le at text inside in
    let place : byte_of text rest ≡ length pre = omega arith in
    let found : drop (byte_of text rest) text ≡ after = ap (λ i. drop i text) place ∙ ap (drop (length pre)) whole ∙ drop-append_seam pre after in
    record {
      short = omega arith;
      behind = omega arith;
      boundary = subst (IsCharBoundary text) (sym place) (IsCharBoundary-at_seam text pre after whole (rest, (fits, refl)));
      bytes = found;
      seen = ap chars found ∙ chars-encodes rest fits;
    }

-- what follows a character is shorter
pub bytes-shorter : (c : ℕ) (cs after : List ℕ) → EndsWith cs after → length (encode_utf8_all after) < length (encode_utf8_all (c ∷ cs))
bytes-shorter c cs after e =
    let one = (len_utf8_bounds c).0 in
    let size = length-encode c in
    let all : length (encode_utf8_all (c ∷ cs)) ≡ length (encode_utf8 c) + length (encode_utf8_all cs) = length-append (encode_utf8 c) (encode_utf8_all cs) in
    let parts : length (encode_utf8_all cs) ≡ length (encode_utf8_all e.front) + length (encode_utf8_all after) =
    ap (λ l. length (encode_utf8_all l)) e.parts ∙ ap length (encodes-append e.front after) ∙ length-append (encode_utf8_all e.front) (encode_utf8_all after) in
    omega arith
