-- Where there is a stop, the function stops there, and for that cause.
use Rattle.std.proofs.Common.{◌≡◌, ◌≢◌, ℕ, zero, suc, ◌^◌, ◌<◌, ◌≤◌, true, false, nat_lt, nat_le, List, [], ◌∷◌, length, Option, Some, Ok, Err, refl, sym, ap, ◌∙◌, arith, codes}
use Rattle.tp_lex.specs.Tokens.{Lexed}
use Rattle.tp_lex.specs.declared.token.TokenKind.{TokenKind}
use Rattle.tp_lex.specs.declared.token.TokenKind.TheVariants as kind
use Rattle.tp_parse.specs.Tree.{Tree, Compound, Trees, first_of, unary, binary, list_cell}
use Rattle.tp_parse.specs.Table.{Op, Table}
use Rattle.tp_parse.specs.Ahead.{first_kind, is_atom_before}
use Rattle.tp_parse.specs.Reading.{Read, Stop, Term, Inner, ◌>>=◌, closes_by, behind, bracketed, braced, after_arg, args, tail, after_element, elements, primary, infix_parts, reading}
use Rattle.tp_parse.specs.Grammar.{IsOtherName}
use Rattle.tp_parse.specs.Stopping.{begins_none, Stops, too_deep, ended_too_deep, in_primary, in_infix_parts, StopsFirst, ended, no_primary, too_large, in_parentheses, no_close, in_list, in_braces, no_close_curly, in_compound, operator_above_bound, in_operand, StopsElements, in_element, behind_element, in_more_elements, in_tail, behind_tail, StopsArguments, in_argument, behind_argument, too_many, in_more_arguments, StopsBehind, in_right_operand, in_later_part}
use Rattle.tp_parse.specs.declared.fault.ReadCause.{ReadCause}
use Rattle.tp_parse.specs.declared.fault.ReadCause.TheVariants as cause
use Rattle.tp_parse.proofs.OneReading.Tokens.{if_false, closes_other, behind_err, is_taken_true}
use Rattle.tp_parse.proofs.OneReading.Complete.{complete, complete-Begins, shorter-Reads, reads_not_closing, first_step, operator_step, operator_above_step, compound_step, bracketed_step, braced_step, listed_step, args_step, args_behind, elements_step, elements_behind, tail_step, parts_taken}

-- ---- one step of the function at each stop

pub after_arg_other : (more : List Lexed → Read (Trees × List Lexed)) (n : ℕ) (x : Tree) (ts : List Lexed) (k : Option TokenKind) → k ≢ Some kind.Comma → k ≢ Some kind.Close → after_arg more n x ts k ≡ Err (cause.Syntax, ts)
after_arg_other more n x ts (Some kind.Close) h g = absurd (g refl)
after_arg_other more n x ts (Some kind.Comma) h g = absurd (h refl)
after_arg_other more n x ts k h g = refl

pub after_element_other : (inner : Inner) (more : List Lexed → Read (Tree × List Lexed)) (x : Tree) (ts : List Lexed) (k : Option TokenKind) → k ≢ Some kind.Comma → k ≢ Some kind.Bar → k ≢ Some kind.CloseList →
    after_element inner more x ts k ≡ Err (cause.Syntax, ts)
after_element_other inner more x ts (Some kind.CloseList) h g i = absurd (i refl)
after_element_other inner more x ts (Some kind.Comma) h g i = absurd (h refl)
after_element_other inner more x ts (Some kind.Bar) h g i = absurd (g refl)
after_element_other inner more x ts k h g i = refl

-- where the tokens have ended, a term is wanting
pub reading_nothing : (ops : Table) (m p : ℕ) → reading ops m p [] ≡ Err (cause.Syntax, [])
unfolding reading primary
reading_nothing ops zero p = refl
reading_nothing ops (suc m) p = refl

is_nothing : (ts : List Lexed) → length ts ≤ 0 → ts ≡ []
is_nothing [] h = refl
is_nothing (t ∷ ts) h = absurd (omega arith)

-- no elements are read where there are no tokens
elements_nothing : (ops : Table) (m p : ℕ) (ts us : List Lexed) (c : ReadCause) → length ts ≤ 0 → reading ops m p ts ≡ Err (c, us) → elements (reading ops m) 0 ts ≡ Err (c, us)
unfolding elements
elements_nothing ops m p ts us c h e =
    ap (λ l. Err (cause.Syntax, l)) (is_nothing ts h) ∙ ap again (sym (reading_nothing ops m p) ∙ ap (reading ops m p) (sym (is_nothing ts h)) ∙ e)
  where
    again : Read Term → Read (Tree × List Lexed)
    again (Ok x) = Ok (x.0, x.2)
    again (Err d) = Err d

module _ (ops : Table) (inner : Inner) (p : ℕ) (t : Lexed) (ts : List Lexed) where
  no_primary_step : begins_none t.kind ≡ true → primary ops inner p (t ∷ ts) ≡ Err (cause.Syntax, t ∷ ts)
  no_primary_step e = go t.kind refl e
    where
      go : (k : TokenKind) → t.kind ≡ k → begins_none k ≡ true → primary ops inner p (t ∷ ts) ≡ Err (cause.Syntax, t ∷ ts)
      go kind.Close h e = first_step ops inner p t ts kind.Close h
      go kind.CloseList h e = first_step ops inner p t ts kind.CloseList h
      go kind.CloseCurly h e = first_step ops inner p t ts kind.CloseCurly h
      go kind.Comma h e = first_step ops inner p t ts kind.Comma h
      go kind.Bar h e = first_step ops inner p t ts kind.Bar h
      go kind.End h e = first_step ops inner p t ts kind.End h
      go k h e = cc

  too_large_step : t.kind ≡ kind.Integer → 2 ^ 63 ≤ t.value → primary ops inner p (t ∷ ts) ≡ Err (cause.Number, t ∷ ts)
  too_large_step e h = let g : nat_lt t.value (2 ^ 63) ≡ false = grind arith in first_step ops inner p t ts kind.Integer e ∙ if_false (nat_lt t.value (2 ^ 63)) _ _ g

  in_parentheses_step : (e : Stop) → t.kind ≡ kind.Open → inner 1200 ts ≡ Err e → primary ops inner p (t ∷ ts) ≡ Err e
  unfolding bracketed
  in_parentheses_step e h r = first_step ops inner p t ts kind.Open h ∙ ap (λ r. r >>= λ r. behind kind.Close r.2 >>= λ vs. Ok (r.0, 0, vs)) r

  in_braces_step : (e : Stop) → t.kind ≡ kind.OpenCurly → first_kind ts ≢ Some kind.CloseCurly → inner 1200 ts ≡ Err e → primary ops inner p (t ∷ ts) ≡ Err e
  unfolding braced
  in_braces_step e h n r =
      first_step ops inner p t ts kind.OpenCurly h ∙ if_false (closes_by kind.CloseCurly (first_kind ts)) _ _ (closes_other kind.CloseCurly (first_kind ts) n)
      ∙ ap (λ r. r >>= λ r. behind kind.CloseCurly r.2 >>= λ vs. Ok (unary (codes "{}") r.0, 0, vs)) r

  above_bound_step : (o : Op) → IsOtherName t ts → ops.prefixes t.name ≡ Some o → is_atom_before ops ts ≡ false → p < o.0 → primary ops inner p (t ∷ ts) ≡ Err (cause.Syntax, ts)
  above_bound_step o n e b h =
      let g : nat_le o.0 p ≡ false = grind arith in
      operator_above_step ops inner p t ts o n e b g ∙ if_false (is_atom_before ops ts) _ _ b ∙ if_false (nat_le o.0 p) _ _ g

tail_stops : (inner : Inner) (ts : List Lexed) (e : Stop) → inner 999 ts ≡ Err e → tail inner ts ≡ Err e
tail_stops inner ts e h = ap (λ r. r >>= λ r. behind kind.CloseList r.2 >>= λ vs. Ok (r.0, vs)) h

-- ---- stopped

mutual
  unfolding reading primary

  pub stopped : {ops : Table} {m p : ℕ} {ts : List Lexed} {c : ReadCause} {us : List Lexed} → Stops ops m p ts c us → reading ops m p ts ≡ Err (c, us)
  stopped too_deep = refl
  stopped ended_too_deep = refl
  stopped {ops} (in_primary {m} {p} s) = ap (λ z. z >>= λ y. infix_parts ops (reading ops m) (length y.2) p y.0 y.1 y.2) (stopped-First s)
  stopped {ops} (in_infix_parts {m} {p} {us = us} b s) = ap (λ z. z >>= λ y. infix_parts ops (reading ops m) (length y.2) p y.0 y.1 y.2) (complete-Begins b) ∙ stopped-Behind s (length us) (omega arith)

  stopped-First : {ops : Table} {m p : ℕ} {ts : List Lexed} {c : ReadCause} {us : List Lexed} → StopsFirst ops m p ts c us → primary ops (reading ops m) p ts ≡ Err (c, us)
  stopped-First ended = refl
  stopped-First {ops} (no_primary {m} {p} {t} {ts} b) = no_primary_step ops (reading ops m) p t ts b
  stopped-First {ops} (too_large {m} {p} {t} {ts} e h) = too_large_step ops (reading ops m) p t ts e h
  stopped-First {ops} (in_parentheses {m} {p} {t} {ts} e s) = in_parentheses_step ops (reading ops m) p t ts _ e (stopped s)
  stopped-First {ops} (no_close {m} {p} {q} {t} {ts} {us} {x} e r n) =
      bracketed_step ops (reading ops m) p t ts x q us e (complete r) ∙ ap (λ b. b >>= λ vs. Ok (x, 0, vs)) (behind_err kind.Close us n)
  stopped-First {ops} (in_list {m} {p} {t} {ts} e n s) = listed_step ops (reading ops m) p t ts e n ∙ ap (λ r. r >>= λ r. Ok (r.0, 0, r.1)) (stopped-Elements s (length ts) (omega arith))
  stopped-First {ops} (in_braces {m} {p} {t} {ts} e n s) = in_braces_step ops (reading ops m) p t ts _ e n (stopped s)
  stopped-First {ops} (no_close_curly {m} {p} {q} {t} {ts} {us} {x} e r n) =
      braced_step ops (reading ops m) p t ts x q us e (reads_not_closing kind.CloseCurly refl r) (complete r) ∙ ap (λ b. b >>= λ vs. Ok (unary (codes "{}") x, 0, vs)) (behind_err kind.CloseCurly us n)
  stopped-First {ops} (in_compound {m} {p} {t} {o} {ts} n e d s) =
      compound_step ops (reading ops m) p t (o ∷ ts) o ts refl n e d ∙ ap (λ r. r >>= λ r. Ok (Compound t.name r.0, 0, r.1)) (stopped-Arguments s)
  stopped-First {ops} (operator_above_bound {m} {p} {t} {ts} {o} n e b h) = above_bound_step ops (reading ops m) p t ts o n e b h
  stopped-First {ops} (in_operand {m} {p} {t} {ts} {us} {o} n e b h s) =
      operator_step ops (reading ops m) p t ts o n e b h ∙ ap (λ r. r >>= λ r. Ok (unary t.name r.0, o.0, r.2)) (stopped s)

  stopped-Elements : {ops : Table} {m : ℕ} {ts : List Lexed} {c : ReadCause} {us : List Lexed} → StopsElements ops m ts c us → (n : ℕ) → length ts ≤ n → elements (reading ops m) n ts ≡ Err (c, us)
  stopped-Elements {ops} (in_element {m} {ts} {us} {c} s) zero h = elements_nothing ops m 999 ts us c h (stopped s)
  stopped-Elements {ops} (in_element {m} {ts} s) (suc n) h = elements_step (reading ops m) n ts ∙ ap (λ r. r >>= λ r. after_element (reading ops m) (elements (reading ops m) n) r.0 r.2 (first_kind r.2)) (stopped s)
  stopped-Elements (behind_element r a b d) zero h = absurd (omega (arith, shorter-Reads r))
  stopped-Elements {ops} (behind_element {m} {q} {ts} {us} {x} r a b d) (suc n) h =
      elements_behind (reading ops m) n ts us x q (first_kind us) (complete r) refl ∙ after_element_other (reading ops m) (elements (reading ops m) n) x us (first_kind us) a b d
  stopped-Elements (in_more_elements r e s) zero h = absurd (omega (arith, shorter-Reads r))
  stopped-Elements {ops} (in_more_elements {m} {q} {k} {ts} {us} {vs} {x} r e s) (suc n) h =
      elements_behind (reading ops m) n ts (k ∷ us) x q (Some kind.Comma) (complete r) (ap Some e)
      ∙ ap (λ r. r >>= λ r. Ok (list_cell x r.0, r.1)) (stopped-Elements s n (omega (arith, shorter-Reads r)))
  stopped-Elements (in_tail r e s) zero h = absurd (omega (arith, shorter-Reads r))
  stopped-Elements {ops} (in_tail {m} {q} {k} {ts} {us} {vs} {x} r e s) (suc n) h =
      elements_behind (reading ops m) n ts (k ∷ us) x q (Some kind.Bar) (complete r) (ap Some e)
      ∙ ap (λ r. r >>= λ r. Ok (list_cell x r.0, r.1)) (tail_stops (reading ops m) us _ (stopped s))
  stopped-Elements (behind_tail r e s d) zero h = absurd (omega (arith, shorter-Reads r))
  stopped-Elements {ops} (behind_tail {m} {q} {r = r1} {k} {ts} {us} {vs} {x} {y} r e s d) (suc n) h =
      elements_behind (reading ops m) n ts (k ∷ us) x q (Some kind.Bar) (complete r) (ap Some e)
      ∙ ap (λ r. r >>= λ r. Ok (list_cell x r.0, r.1)) (tail_step (reading ops m) us vs y r1 (complete s) ∙ ap (λ b. b >>= λ vs. Ok (y, vs)) (behind_err kind.CloseList vs d))

  stopped-Arguments : {ops : Table} {m n : ℕ} {ts : List Lexed} {c : ReadCause} {us : List Lexed} → StopsArguments ops m n ts c us → args (reading ops m) n ts ≡ Err (c, us)
  stopped-Arguments {ops} (in_argument {m} {n} {ts} s) = args_step (reading ops m) n ts ∙ ap (λ r. r >>= λ r. after_arg (args (reading ops m) n) n r.0 r.2 (first_kind r.2)) (stopped s)
  stopped-Arguments {ops} (behind_argument {m} {n} {q} {ts} {us} {x} r a b) =
      args_behind (reading ops m) n ts us x q (first_kind us) (complete r) refl ∙ after_arg_other (args (reading ops m) n) n x us (first_kind us) a b
  stopped-Arguments {ops} (too_many {m} {q} {k} {ts} {us} {x} r e) = args_behind (reading ops m) 0 ts (k ∷ us) x q (Some kind.Comma) (complete r) (ap Some e)
  stopped-Arguments {ops} (in_more_arguments {m} {n} {q} {k} {ts} {us} {vs} {x} r e s) =
      args_behind (reading ops m) (suc n) ts (k ∷ us) x q (Some kind.Comma) (complete r) (ap Some e) ∙ ap (λ r. r >>= λ r. Ok (first_of x r.0, r.1)) (stopped-Arguments s)

  stopped-Behind : {ops : Table} {m p : ℕ} {x : Tree} {q : ℕ} {ts : List Lexed} {c : ReadCause} {us : List Lexed} → StopsBehind ops m p x q ts c us → (n : ℕ) → length ts ≤ n → infix_parts ops (reading ops m) n p x q ts ≡ Err (c, us)
  stopped-Behind (in_right_operand e a b s) zero h = absurd (omega arith)
  stopped-Behind {ops} (in_right_operand {m} {p} {q} {x} {i} {ts} {us} {f} {o} e a b s) (suc n) h =
      parts_taken ops (reading ops m) p n q x i ts (f, o) e (is_taken_true o p q a b) ∙ ap (λ r. r >>= λ r. infix_parts ops (reading ops m) n p (binary f x r.0) o.0 r.2) (stopped s)
  stopped-Behind (in_later_part e a b r s) zero h = absurd (omega arith)
  stopped-Behind {ops} (in_later_part {m} {p} {q} {r = r1} {x} {y} {i} {ts} {us} {vs} {f} {o} e a b r s) (suc n) h =
      parts_taken ops (reading ops m) p n q x i ts (f, o) e (is_taken_true o p q a b)
      ∙ ap (λ r. r >>= λ r. infix_parts ops (reading ops m) n p (binary f x r.0) o.0 r.2) (complete r)
      ∙ stopped-Behind s n (omega (arith, shorter-Reads r))
