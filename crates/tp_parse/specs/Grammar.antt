-- The grammar as a relation, with one case for each rule.
use Rattle.std.specs.Prelude.{◌≡◌, ℕ, suc, ◌^◌, ◌<◌, ◌≤◌, pos, Bool, true, false, ◌&&◌, List, []}
use Rattle.std.specs.Prelude.{◌∷◌, Some, None, codes}
use Rattle.tp_lex.specs.Tokens.{Lexed}
use Rattle.tp_lex.specs.declared.token.TokenKind.{TokenKind}
use Rattle.tp_lex.specs.declared.token.TokenKind.TheVariants as kind
use Rattle.tp_parse.specs.Tree.{Tree, Variable, Integer, Atom, Compound, Trees, none, first_of}
use Rattle.tp_parse.specs.Tree.{unary, binary, empty_list, list_cell, integers, minus}
use Rattle.tp_parse.specs.Table.{Op, Table, left_bound, right_bound}
use Rattle.tp_parse.specs.Ahead.{opens_directly, is_integer_directly, is_minus, infix_ahead}
use Rattle.tp_parse.specs.Ahead.{is_atom_before}

abbrev pub is_name : TokenKind → Bool
is_name kind.Name = true
is_name kind.Quoted = true
is_name k = false

-- a name before these tokens that begins no compound and is no sign of an integer
pub record IsOtherName (t : Lexed) (ts : List Lexed) : Type 0 where
  pub name : is_name t.kind ≡ true
  pub no_compound : opens_directly ts ≡ false
  pub no_sign : (is_minus t && is_integer_directly ts) ≡ false

mutual
  -- With so many levels of depth left, a term with bound p: its priority, and the tokens behind it.
  -- It is a primary and then zero or more infix parts.
  pub data Reads (ops : Table) : ℕ → ℕ → List Lexed → Tree → ℕ → List Lexed → Type 0 where
    whole : {m p q r : ℕ} {ts us vs : List Lexed} {x y : Tree} → Begins ops m p ts x q us →
        Goes ops m p x q us y r vs → Reads ops (suc m) p ts y r vs

  -- a primary, by its first token; no token of a text has a value above 2 ^ 63
  pub data Begins (ops : Table) : ℕ → ℕ → List Lexed → Tree → ℕ → List Lexed → Type 0 where
    integer : {m p : ℕ} {t : Lexed} {ts : List Lexed} → t.kind ≡ kind.Integer → t.value < 2 ^ 63 →
        Begins ops m p (t ∷ ts) (Integer (pos t.value)) 0 ts
    variable : {m p : ℕ} {t : Lexed} {ts : List Lexed} → t.kind ≡ kind.Variable →
        Begins ops m p (t ∷ ts) (Variable t.name) 0 ts
    list_of_codes : {m p : ℕ} {t : Lexed} {ts : List Lexed} → t.kind ≡ kind.Codes →
        Begins ops m p (t ∷ ts) (integers t.name) 0 ts
    parentheses : {m p q : ℕ} {t c : Lexed} {ts us : List Lexed} {x : Tree} → t.kind ≡ kind.Open →
        Reads ops m 1200 ts x q (c ∷ us) → c.kind ≡ kind.Close → Begins ops m p (t ∷ ts) x 0 us
    empty_brackets : {m p : ℕ} {t c : Lexed} {ts : List Lexed} → t.kind ≡ kind.OpenList →
        c.kind ≡ kind.CloseList → Begins ops m p (t ∷ c ∷ ts) (Atom (codes "[]")) 0 ts
    empty_braces : {m p : ℕ} {t c : Lexed} {ts : List Lexed} → t.kind ≡ kind.OpenCurly →
        c.kind ≡ kind.CloseCurly → Begins ops m p (t ∷ c ∷ ts) (Atom (codes "{}")) 0 ts
    list : {m p : ℕ} {t : Lexed} {ts us : List Lexed} {x : Tree} → t.kind ≡ kind.OpenList →
        Elements ops m ts x us → Begins ops m p (t ∷ ts) x 0 us
    braces : {m p q : ℕ} {t c : Lexed} {ts us : List Lexed} {x : Tree} → t.kind ≡ kind.OpenCurly →
        Reads ops m 1200 ts x q (c ∷ us) → c.kind ≡ kind.CloseCurly →
        Begins ops m p (t ∷ ts) (unary (codes "{}") x) 0 us
    compound : {m p : ℕ} {t o : Lexed} {ts us : List Lexed} {xs : Trees} → is_name t.kind ≡ true →
        o.kind ≡ kind.Open → o.direct ≡ true → Arguments ops m 255 ts xs us →
        Begins ops m p (t ∷ o ∷ ts) (Compound t.name xs) 0 us
    negative : {m p : ℕ} {t i : Lexed} {ts : List Lexed} → is_minus t ≡ true →
        i.kind ≡ kind.Integer → i.direct ≡ true → Begins ops m p (t ∷ i ∷ ts)
        (Integer (minus i.value)) 0 ts
    operator_as_atom : {m p : ℕ} {t : Lexed} {ts : List Lexed} {o : Op} → IsOtherName t ts →
        ops.prefixes t.name ≡ Some o → is_atom_before ops ts ≡ true →
        Begins ops m p (t ∷ ts) (Atom t.name) 0 ts
    operator : {m p q : ℕ} {t : Lexed} {ts us : List Lexed} {o : Op} {x : Tree} → IsOtherName t ts →
        ops.prefixes t.name ≡ Some o → is_atom_before ops ts ≡ false → o.0 ≤ p →
        Reads ops m (right_bound o) ts x q us → Begins ops m p (t ∷ ts) (unary t.name x) o.0 us
    atom : {m p : ℕ} {t : Lexed} {ts : List Lexed} → IsOtherName t ts → ops.prefixes t.name ≡ None →
        Begins ops m p (t ∷ ts) (Atom t.name) 0 ts

  -- the elements of a list, its tail if it has one, and the bracket that closes it
  pub data Elements (ops : Table) : ℕ → List Lexed → Tree → List Lexed → Type 0 where
    last_element : {m q : ℕ} {c : Lexed} {ts us : List Lexed} {x : Tree} →
        Reads ops m 999 ts x q (c ∷ us) → c.kind ≡ kind.CloseList →
        Elements ops m ts (list_cell x empty_list) us
    more_elements : {m q : ℕ} {c : Lexed} {ts us vs : List Lexed} {x y : Tree} →
        Reads ops m 999 ts x q (c ∷ us) → c.kind ≡ kind.Comma → Elements ops m us y vs →
        Elements ops m ts (list_cell x y) vs
    element_and_tail : {m q r : ℕ} {b c : Lexed} {ts us vs : List Lexed} {x y : Tree} →
        Reads ops m 999 ts x q (b ∷ us) → b.kind ≡ kind.Bar → Reads ops m 999 us y r (c ∷ vs) →
        c.kind ≡ kind.CloseList →
        Elements ops m ts (list_cell x y) vs

  -- arguments, at most so many, and the parenthesis that closes them
  pub data Arguments (ops : Table) : ℕ → ℕ → List Lexed → Trees → List Lexed → Type 0 where
    last_argument : {m n q : ℕ} {c : Lexed} {ts us : List Lexed} {x : Tree} →
        Reads ops m 999 ts x q (c ∷ us) → c.kind ≡ kind.Close →
        Arguments ops m (suc n) ts (first_of x none) us
    more_arguments : {m n q : ℕ} {c : Lexed} {ts us vs : List Lexed} {x : Tree} {xs : Trees} →
        Reads ops m 999 ts x q (c ∷ us) → c.kind ≡ kind.Comma → Arguments ops m (suc n) us xs vs →
        Arguments ops m (suc (suc n)) ts (first_of x xs) vs

  -- behind a term of priority q, zero or more infix parts
  pub data Goes (ops : Table) : ℕ → ℕ → Tree → ℕ → List Lexed → Tree → ℕ → List Lexed → Type 0 where
    no_operator : {m p q : ℕ} {x : Tree} {ts : List Lexed} → infix_ahead ops ts ≡ None →
        Goes ops m p x q ts x q ts
    above_bound : {m p q : ℕ} {x : Tree} {ts : List Lexed} {f : List ℕ} {o : Op} →
        infix_ahead ops ts ≡ Some (f, o) → p < o.0 → Goes ops m p x q ts x q ts
    above_left_bound : {m p q : ℕ} {x : Tree} {ts : List Lexed} {f : List ℕ} {o : Op} →
        infix_ahead ops ts ≡ Some (f, o) → left_bound o < q → Goes ops m p x q ts x q ts
    infix_part : {m p q r s : ℕ} {x y z : Tree} {i : Lexed} {ts us vs : List Lexed} {f : List ℕ}
        {o : Op} → infix_ahead ops (i ∷ ts) ≡ Some (f, o) → o.0 ≤ p → q ≤ left_bound o →
        Reads ops m (right_bound o) ts y r us → Goes ops m p (binary f x y) o.0 us z s vs →
        Goes ops m p x q (i ∷ ts) z s vs

-- the most levels of depth of a clause or goal
abbrev pub levels : ℕ
levels = 1000

-- a clause: a term with bound 1200, then End
pub data ReadsClause (ops : Table) : List Lexed → Tree → Type 0 where
  clause : {q : ℕ} {e : Lexed} {ts : List Lexed} {x : Tree} →
      Reads ops levels 1200 ts x q (e ∷ []) → e.kind ≡ kind.End → ReadsClause ops ts x

-- a goal: a term with bound 1200, then optionally End, then nothing
pub data ReadsGoal (ops : Table) : List Lexed → Tree → Type 0 where
  goal : {q : ℕ} {ts : List Lexed} {x : Tree} → Reads ops levels 1200 ts x q [] → ReadsGoal ops ts x
  goal_and_end : {q : ℕ} {e : Lexed} {ts : List Lexed} {x : Tree} →
      Reads ops levels 1200 ts x q (e ∷ []) → e.kind ≡ kind.End → ReadsGoal ops ts x
