-- Where and why nothing is read, with one case for each rule and cause: the cause, and the tokens
-- from the stop on. The place of the stop is the number of tokens before those.
use Rattle.std.specs.Prelude.{◌≡◌, ◌≢◌, ℕ, zero, suc, ◌^◌, ◌<◌, ◌≤◌, Bool, true, false, List, []}
use Rattle.std.specs.Prelude.{◌∷◌, Some}
use Rattle.tp_lex.specs.Tokens.{Lexed}
use Rattle.tp_lex.specs.declared.token.TokenKind.{TokenKind}
use Rattle.tp_lex.specs.declared.token.TokenKind.TheVariants as kind
use Rattle.tp_parse.specs.Tree.{Tree, binary}
use Rattle.tp_parse.specs.Table.{Op, Table, left_bound, right_bound}
use Rattle.tp_parse.specs.Ahead.{first_kind, infix_ahead, is_atom_before}
use Rattle.tp_parse.specs.Grammar.{is_name, IsOtherName, Reads, Begins, levels}
use Rattle.tp_parse.specs.declared.fault.ReadCause.{ReadCause}
use Rattle.tp_parse.specs.declared.fault.ReadCause.TheVariants as cause

-- a token that begins no primary
abbrev pub begins_none : TokenKind → Bool
begins_none kind.Close = true
begins_none kind.CloseList = true
begins_none kind.CloseCurly = true
begins_none kind.Comma = true
begins_none kind.Bar = true
begins_none kind.End = true
begins_none k = false

mutual
  -- with so many levels of depth left, no term with bound p
  pub data Stops (ops : Table) : ℕ → ℕ → List Lexed → ReadCause → List Lexed → Type 0 where
    too_deep : {p : ℕ} {t : Lexed} {ts : List Lexed} → Stops ops zero p (t ∷ ts) cause.Depth
        (t ∷ ts)
    ended_too_deep : {p : ℕ} → Stops ops zero p [] cause.Syntax []
    in_primary : {m p : ℕ} {ts us : List Lexed} {c : ReadCause} → StopsFirst ops m p ts c us →
        Stops ops (suc m) p ts c us
    in_infix_parts : {m p q : ℕ} {ts us vs : List Lexed} {x : Tree} {c : ReadCause} →
        Begins ops m p ts x q us → StopsBehind ops m p x q us c vs → Stops ops (suc m) p ts c vs

  -- no primary
  pub data StopsFirst (ops : Table) : ℕ → ℕ → List Lexed → ReadCause → List Lexed → Type 0 where
    ended : {m p : ℕ} → StopsFirst ops m p [] cause.Syntax []
    no_primary : {m p : ℕ} {t : Lexed} {ts : List Lexed} → begins_none t.kind ≡ true →
        StopsFirst ops m p (t ∷ ts) cause.Syntax (t ∷ ts)
    too_large : {m p : ℕ} {t : Lexed} {ts : List Lexed} → t.kind ≡ kind.Integer → 2 ^ 63 ≤ t.value →
        StopsFirst ops m p (t ∷ ts) cause.Number (t ∷ ts)
    in_parentheses : {m p : ℕ} {t : Lexed} {ts us : List Lexed} {c : ReadCause} →
        t.kind ≡ kind.Open → Stops ops m 1200 ts c us → StopsFirst ops m p (t ∷ ts) c us
    no_close : {m p q : ℕ} {t : Lexed} {ts us : List Lexed} {x : Tree} → t.kind ≡ kind.Open →
        Reads ops m 1200 ts x q us → first_kind us ≢ Some kind.Close →
        StopsFirst ops m p (t ∷ ts) cause.Syntax us
    in_list : {m p : ℕ} {t : Lexed} {ts us : List Lexed} {c : ReadCause} → t.kind ≡ kind.OpenList →
        first_kind ts ≢ Some kind.CloseList → StopsElements ops m ts c us →
        StopsFirst ops m p (t ∷ ts) c us
    in_braces : {m p : ℕ} {t : Lexed} {ts us : List Lexed} {c : ReadCause} →
        t.kind ≡ kind.OpenCurly → first_kind ts ≢ Some kind.CloseCurly → Stops ops m 1200 ts c us →
        StopsFirst ops m p (t ∷ ts) c us
    no_close_curly : {m p q : ℕ} {t : Lexed} {ts us : List Lexed} {x : Tree} →
        t.kind ≡ kind.OpenCurly → Reads ops m 1200 ts x q us →
        first_kind us ≢ Some kind.CloseCurly → StopsFirst ops m p (t ∷ ts) cause.Syntax us
    in_compound : {m p : ℕ} {t o : Lexed} {ts us : List Lexed} {c : ReadCause} →
        is_name t.kind ≡ true → o.kind ≡ kind.Open → o.direct ≡ true →
        StopsArguments ops m 255 ts c us → StopsFirst ops m p (t ∷ o ∷ ts) c us
    operator_above_bound : {m p : ℕ} {t : Lexed} {ts : List Lexed} {o : Op} → IsOtherName t ts →
        ops.prefixes t.name ≡ Some o → is_atom_before ops ts ≡ false → p < o.0 →
        StopsFirst ops m p (t ∷ ts) cause.Syntax ts
    in_operand : {m p : ℕ} {t : Lexed} {ts us : List Lexed} {o : Op} {c : ReadCause} →
        IsOtherName t ts → ops.prefixes t.name ≡ Some o → is_atom_before ops ts ≡ false → o.0 ≤ p →
        Stops ops m (right_bound o) ts c us → StopsFirst ops m p (t ∷ ts) c us

  -- no elements of a list with the bracket that closes it
  pub data StopsElements (ops : Table) : ℕ → List Lexed → ReadCause → List Lexed → Type 0 where
    in_element : {m : ℕ} {ts us : List Lexed} {c : ReadCause} → Stops ops m 999 ts c us →
        StopsElements ops m ts c us
    behind_element : {m q : ℕ} {ts us : List Lexed} {x : Tree} → Reads ops m 999 ts x q us →
        first_kind us ≢ Some kind.Comma → first_kind us ≢ Some kind.Bar →
        first_kind us ≢ Some kind.CloseList →
        StopsElements ops m ts cause.Syntax us
    in_more_elements : {m q : ℕ} {k : Lexed} {ts us vs : List Lexed} {x : Tree} {c : ReadCause} →
        Reads ops m 999 ts x q (k ∷ us) → k.kind ≡ kind.Comma → StopsElements ops m us c vs →
        StopsElements ops m ts c vs
    in_tail : {m q : ℕ} {k : Lexed} {ts us vs : List Lexed} {x : Tree} {c : ReadCause} →
        Reads ops m 999 ts x q (k ∷ us) → k.kind ≡ kind.Bar → Stops ops m 999 us c vs →
        StopsElements ops m ts c vs
    behind_tail : {m q r : ℕ} {k : Lexed} {ts us vs : List Lexed} {x y : Tree} →
        Reads ops m 999 ts x q (k ∷ us) → k.kind ≡ kind.Bar → Reads ops m 999 us y r vs →
        first_kind vs ≢ Some kind.CloseList →
        StopsElements ops m ts cause.Syntax vs

  -- no arguments, at most so many, with the parenthesis that closes them
  pub data StopsArguments (ops : Table) : ℕ → ℕ → List Lexed → ReadCause → List Lexed → Type 0 where
    in_argument : {m n : ℕ} {ts us : List Lexed} {c : ReadCause} → Stops ops m 999 ts c us →
        StopsArguments ops m (suc n) ts c us
    behind_argument : {m n q : ℕ} {ts us : List Lexed} {x : Tree} → Reads ops m 999 ts x q us →
        first_kind us ≢ Some kind.Comma → first_kind us ≢ Some kind.Close →
        StopsArguments ops m (suc n) ts cause.Syntax us
    too_many : {m q : ℕ} {k : Lexed} {ts us : List Lexed} {x : Tree} →
        Reads ops m 999 ts x q (k ∷ us) → k.kind ≡ kind.Comma →
        StopsArguments ops m 1 ts cause.Arity (k ∷ us)
    in_more_arguments : {m n q : ℕ} {k : Lexed} {ts us vs : List Lexed} {x : Tree} {c : ReadCause} →
        Reads ops m 999 ts x q (k ∷ us) → k.kind ≡ kind.Comma →
        StopsArguments ops m (suc n) us c vs →
        StopsArguments ops m (suc (suc n)) ts c vs

  -- behind a term of priority q, an infix part that has no right operand
  pub data StopsBehind (ops : Table) : ℕ → ℕ → Tree → ℕ → List Lexed → ReadCause → List Lexed →
      Type 0 where
    in_right_operand : {m p q : ℕ} {x : Tree} {i : Lexed} {ts us : List Lexed} {f : List ℕ} {o : Op}
        {c : ReadCause} → infix_ahead ops (i ∷ ts) ≡ Some (f, o) → o.0 ≤ p → q ≤ left_bound o →
        Stops ops m (right_bound o) ts c us → StopsBehind ops m p x q (i ∷ ts) c us
    in_later_part : {m p q r : ℕ} {x y : Tree} {i : Lexed} {ts us vs : List Lexed} {f : List ℕ}
        {o : Op} {c : ReadCause} → infix_ahead ops (i ∷ ts) ≡ Some (f, o) → o.0 ≤ p →
        q ≤ left_bound o →
        Reads ops m (right_bound o) ts y r us → StopsBehind ops m p (binary f x y) o.0 us c vs →
        StopsBehind ops m p x q (i ∷ ts) c vs

-- no clause
pub data StopsClause (ops : Table) : List Lexed → ReadCause → List Lexed → Type 0 where
  in_clause : {ts us : List Lexed} {c : ReadCause} → Stops ops levels 1200 ts c us →
      StopsClause ops ts c us
  clause_without_end : {q : ℕ} {ts us : List Lexed} {x : Tree} → Reads ops levels 1200 ts x q us →
      first_kind us ≢ Some kind.End → StopsClause ops ts cause.Syntax us
  behind_clause : {q : ℕ} {e u : Lexed} {ts us : List Lexed} {x : Tree} →
      Reads ops levels 1200 ts x q (e ∷ u ∷ us) → e.kind ≡ kind.End →
      StopsClause ops ts cause.Syntax (u ∷ us)

-- no goal
pub data StopsGoal (ops : Table) : List Lexed → ReadCause → List Lexed → Type 0 where
  in_goal : {ts us : List Lexed} {c : ReadCause} → Stops ops levels 1200 ts c us →
      StopsGoal ops ts c us
  goal_without_end : {q : ℕ} {u : Lexed} {ts us : List Lexed} {x : Tree} →
      Reads ops levels 1200 ts x q (u ∷ us) → u.kind ≢ kind.End →
      StopsGoal ops ts cause.Syntax (u ∷ us)
  behind_goal : {q : ℕ} {e u : Lexed} {ts us : List Lexed} {x : Tree} →
      Reads ops levels 1200 ts x q (e ∷ u ∷ us) → e.kind ≡ kind.End →
      StopsGoal ops ts cause.Syntax (u ∷ us)
