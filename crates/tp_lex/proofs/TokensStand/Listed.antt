-- The list of a text's tokens goes by its next token.
use Rattle.std.proofs.Common.{◌≡◌, ℕ, zero, suc, ◌-◌, ◌<◌, ◌≤◌, true, false, List, [], length, drop, chars, Some, None, Ok, Err, refl, ap, ◌∙◌, arith, length-drop}
use Rattle.std.specs.Prelude.{Option, Result, Bool}
use Rattle.std.specs.Str.{IsUtf8, IsCharBoundary}
use Rattle.std.proofs.lemmas.Str.{chars-nil}
use Rattle.std.proofs.lemmas.List.{nil_from_length}
use Rattle.tp_lex.specs.declared.token.Token.{Token}
use Rattle.tp_lex.specs.declared.token.LexFault.{LexFault}
use Rattle.tp_lex.specs.Layout.{past_layout}
use Rattle.tp_lex.specs.Next.{from_byte, token_in, next}
use Rattle.tp_lex.specs.Tokens.{Lexed, Reach, lexed, with_token, stops_at, tokens_by_next, tokens_up_to, tokens_from}
use Rattle.tp_lex.proofs.Forms.Gaps.{past_layout-stops}
use Rattle.tp_lex.proofs.StandsBehind.Ends.{after_gap-none}
use Rattle.tp_lex.proofs.TokensStand.Each.{given}

-- at the end of the text there is none
pub next-end : (text : List ℕ) (at : ℕ) → length text ≤ at → next text at ≡ Ok None
unfolding next
next-end text at l =
    let bytes : drop at text ≡ [] = nil_from_length (drop at text) (omega (arith, length-drop at text)) in
    let none : from_byte text at ≡ [] = ap chars bytes ∙ chars-nil in
    ap (λ cs. token_in text (past_layout cs)) none ∙ ap (token_in text) (past_layout-stops [] after_gap-none)

same_choice : (b : Bool) (x : Result (List Lexed) LexFault) (token : Lexed) (y z : Result (List Lexed) LexFault) → y ≡ z → ◌≡◌ {A = Result (List Lexed) LexFault} (elim b [ true ↦ x | false ↦ with_token token y ]) (elim b [ true ↦ x | false ↦ with_token token z ])
same_choice true x token y z e = refl
same_choice false x token y z e = ap (with_token token) e

-- the tokens behind the next one may be taken by another bound
same_step : (reach : Reach) (n m : ℕ) (text : List ℕ) (at : ℕ) (end : Option ℕ) → IsUtf8 text → IsCharBoundary text at → ((to : ℕ) (last : Option ℕ) → IsCharBoundary text to → at < to → tokens_up_to reach n text to last ≡ tokens_up_to reach m text to last) → (r : Result (Option Token) LexFault) → next text at ≡ r → tokens_by_next reach text end (tokens_up_to reach n text) r ≡ tokens_by_next reach text end (tokens_up_to reach m text) r
same_step reach n m text at end u b more (Ok None) e = refl
same_step reach n m text at end u b more (Err fault) e = refl
same_step reach n m text at end u b more (Ok (Some token)) e =
    let s = (given text at token u b e).stands in
    let begins = s.begins in
    let ends = s.ends in
    same_choice (stops_at reach token.kind) _ (lexed text end token) _ _ (more token.to (Some token.to) s.next_place (omega arith))

-- a bound that is large enough changes nothing
pub tokens-more : (reach : Reach) (n m : ℕ) (text : List ℕ) (at : ℕ) (end : Option ℕ) → IsUtf8 text → IsCharBoundary text at → length text - at ≤ n → length text - at ≤ m → tokens_up_to reach n text at end ≡ tokens_up_to reach m text at end
unfolding tokens_up_to
tokens-more reach zero zero text at end u b x y = refl
tokens-more reach zero (suc m) text at end u b x y = let e = next-end text at (omega arith) in rw (e, tokens_up_to)
tokens-more reach (suc n) zero text at end u b x y = let e = next-end text at (omega arith) in rw (e, tokens_up_to)
tokens-more reach (suc n) (suc m) text at end u b x y =
    same_step reach n m text at end u b
    (λ to last c past. let inside : to ≤ length text = c.0 in tokens-more reach n m text to last u c (omega arith) (omega arith))
    (next text at) refl

-- the tokens from a byte on are the next token and those behind it
pub tokens_from-step : (reach : Reach) (text : List ℕ) (at : ℕ) (end : Option ℕ) → IsUtf8 text → IsCharBoundary text at → tokens_from reach text at end ≡ tokens_by_next reach text end (tokens_from reach text) (next text at)
unfolding tokens_from tokens_up_to
tokens_from-step reach text at end u b = by (length text) refl
  where
    by : (n : ℕ) → length text ≡ n → tokens_up_to reach n text at end ≡ tokens_by_next reach text end (tokens_up_to reach n text) (next text at)
    by zero e = let none = next-end text at (omega arith) in rw none
    by (suc n) e =
        same_step reach n (suc n) text at end u b
        (λ to last c past. let inside : to ≤ length text = c.0 in tokens-more reach n (suc n) text to last u c (omega arith) (omega arith))
        (next text at) refl

-- what is next gives the tokens
pub tokens-next : (reach : Reach) (text : List ℕ) (at : ℕ) (end : Option ℕ) (found : Result (Option Token) LexFault) → IsUtf8 text → IsCharBoundary text at → next text at ≡ found → tokens_from reach text at end ≡ tokens_by_next reach text end (tokens_from reach text) found
tokens-next reach text at end found u b e =
    tokens_from-step reach text at end u b ∙ ap (tokens_by_next reach text end (tokens_from reach text)) e
