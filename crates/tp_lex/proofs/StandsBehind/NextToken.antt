-- The next token, as it is found on a text's bytes.
use Rattle.std.proofs.Common.{◌≡◌, ℕ, ◌-◌, ◌≤◌, min, true, false, ◌==◌, nat_le, List, [], ◌∷◌, length, drop, chars, encode_utf8_all, Some, None, Ok, Err, IsTrue, refl, sym, ap, ◌∙◌, arith}
use Rattle.std.specs.Prelude.{Result}
use Rattle.std.specs.Str.{IsUtf8, IsCharBoundary}
use Rattle.std.proofs.lemmas.Str.{encodes-chars, chars-nil}
use Rattle.std.proofs.lemmas.Bool.{eqb-true, eqb-false, leb-true}
use Rattle.std.proofs.lemmas.List.{nil_from_length}
use Rattle.tp_lex.specs.declared.token.Fault.{Fault}
use Rattle.tp_lex.specs.declared.token.Fault.TheVariants.{BadToken}
use Rattle.tp_lex.specs.declared.token.TokenKind.{TokenKind}
use Rattle.tp_lex.specs.declared.token.LexFault.{LexFault}
use Rattle.tp_lex.specs.declared.token.LexFault.TheVariants as at_byte
use Rattle.tp_lex.specs.Layout.{past_layout}
use Rattle.tp_lex.specs.Form.{form}
use Rattle.tp_lex.specs.Next.{byte_of, from_byte, fault_at, placed, token_in, next}
use Rattle.tp_lex.proofs.Places.Suffixes.{EndsWith, ends-cons}
use Rattle.tp_lex.proofs.StandsBehind.Ends.{OkEnd, past_layout-ends, form-ends}
use Rattle.tp_lex.proofs.Places.Bytes.{place_of}

pub at-slice : (text sliced : List ℕ) (at : ℕ) (r : Result (List ℕ) (List ℕ)) → sliced ≡ drop at text → r ≡ past_layout (chars sliced) → past_layout (from_byte text at) ≡ r
at-slice text sliced at r d e = ap (λ b. past_layout (chars b)) (sym d) ∙ sym e

pub start-ends : (text sliced start : List ℕ) (at : ℕ) → sliced ≡ drop at text → Ok (chars start) ≡ past_layout (chars sliced) → EndsWith (from_byte text at) (chars start)
start-ends text sliced start at d e = let r = at-slice text sliced at (Ok (chars start)) d e in rw r at (past_layout-ends (from_byte text at))

pub comment-ends : (text sliced comment : List ℕ) (at : ℕ) → sliced ≡ drop at text → Err (chars comment) ≡ past_layout (chars sliced) → EndsWith (from_byte text at) (chars comment)
comment-ends text sliced comment at d e = let r = at-slice text sliced at (Err (chars comment)) d e in rw r at (past_layout-ends (from_byte text at))

pub form-nil : form [] ≡ Err BadToken
unfolding form
form-nil = refl

pub rest-ends : (all : List ℕ) (kind : TokenKind) (rest : List ℕ) → Ok (kind, rest) ≡ form all → EndsWith all rest
rest-ends [] kind rest e = let absent = form-nil in cc
rest-ends (c ∷ cs) kind rest e =
    let o : OkEnd cs (Ok (kind, rest)) = rw (← e) at (form-ends c cs) in
    ends-cons c cs rest o

-- an end of the text is no longer than it
pub ends-short : (text rest : List ℕ) (at : ℕ) → IsUtf8 text → IsCharBoundary text at → IsUtf8 rest → EndsWith (from_byte text at) (chars rest) → length rest ≤ length text
ends-short text rest at u b v e =
    let p = (place_of text at (chars rest) u b e).short in
    let same = ap length (encodes-chars rest v) in
    omega arith

pub byte-of : (text rest : List ℕ) → IsUtf8 rest → length text - length rest ≡ byte_of text (chars rest)
byte-of text rest v = ap (λ l. length text - length l) (sym (encodes-chars rest v))

pub next-fails : (text sliced comment : List ℕ) (at : ℕ) → IsUtf8 comment → sliced ≡ drop at text → Err (chars comment) ≡ past_layout (chars sliced) → next text at ≡ Err (at_byte.Unfinished (length text - length comment))
unfolding next
next-fails text sliced comment at v d e =
    ap (token_in text) (at-slice text sliced at (Err (chars comment)) d e)
    ∙ ap (λ n. Err (at_byte.Unfinished n)) (sym (byte-of text comment v))

pub next-none : (text sliced start : List ℕ) (at : ℕ) → sliced ≡ drop at text → Ok (chars start) ≡ past_layout (chars sliced) → true ≡ (length start == 0) → next text at ≡ Ok None
unfolding next
next-none text sliced start at d e n =
    let empty : start ≡ [] = nil_from_length start (eqb-true (length start) 0 (sym n)) in
    let none : chars start ≡ [] = ap chars empty ∙ chars-nil in
    ap (token_in text) (at-slice text sliced at (Ok (chars start)) d e ∙ ap (λ l. Ok l) none)

not-empty : (start : List ℕ) → IsUtf8 start → false ≡ (length start == 0) → chars start ≡ [] → ⊥
not-empty start v n e =
    let same : start ≡ [] = sym (encodes-chars start v) ∙ ap encode_utf8_all e in
    eqb-false (length start) 0 (sym n) (ap length same)

-- behind layout and comments stands a form
pub next-form : (text sliced start : List ℕ) (at : ℕ) → IsUtf8 start → sliced ≡ drop at text → Ok (chars start) ≡ past_layout (chars sliced) → false ≡ (length start == 0) → next text at ≡ placed text (chars start) (form (chars start))
unfolding next
next-form text sliced start at v d e n =
    ap (token_in text) (at-slice text sliced at (Ok (chars start)) d e) ∙ by (chars start) (not-empty start v n)
  where
    by : (all : List ℕ) → ¬ (all ≡ []) → token_in text (Ok all) ≡ placed text all (form all)
    by [] absent = absurd (absent refl)
    by (c ∷ cs) absent = refl

pub next-token : (text sliced start rest : List ℕ) (at : ℕ) (kind : TokenKind) → IsUtf8 start → IsUtf8 rest → sliced ≡ drop at text → Ok (chars start) ≡ past_layout (chars sliced) → false ≡ (length start == 0) → Ok (kind, chars rest) ≡ form (chars start) → next text at ≡ Ok (Some (record { kind = kind; from = length text - length start; to = length text - length rest }))
next-token text sliced start rest at kind v w d e n f =
    let s = byte-of text start v in
    let r = byte-of text rest w in
    next-form text sliced start at v d e n ∙ ap (placed text (chars start)) (sym f) ∙ rw (s, r) refl

pub next-broken : (text sliced start : List ℕ) (at : ℕ) (fault : Fault) (answer : LexFault) → IsUtf8 start → sliced ≡ drop at text → Ok (chars start) ≡ past_layout (chars sliced) → false ≡ (length start == 0) → Err fault ≡ form (chars start) → answer ≡ fault_at fault (length text - length start) → next text at ≡ Err answer
next-broken text sliced start at fault answer v d e n f a =
    next-form text sliced start at v d e n ∙ ap (placed text (chars start)) (sym f)
    ∙ ap (λ b. Err (fault_at fault b)) (sym (byte-of text start v)) ∙ ap (λ x. Err x) (sym a)

-- an integer's value, as far as 64 bits hold it, is the value where it is small enough
pub small : (n : ℕ) → IsTrue (nat_le n 9223372036854775808) → (min n 18446744073709551615 ≡ n) × (n ≤ 9223372036854775808)
small n t = let l = leb-true n 9223372036854775808 t in (omega arith, l)
