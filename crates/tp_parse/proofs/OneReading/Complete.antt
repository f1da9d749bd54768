-- What the grammar reads, the function reads.
use Rattle.std.proofs.Common.{◌≡◌, ◌≢◌, ℕ, zero, suc, ◌^◌, ◌<◌, ◌≤◌, pos, true, false, ◌&&◌, nat_lt, nat_le, List, ◌∷◌, length, Option, Some, None, Ok, refl, sym, ap, subst, ◌∙◌, arith, codes}
use Rattle.tp_terms.specs.Term.{Name}
use Rattle.tp_lex.specs.Tokens.{Lexed}
use Rattle.tp_lex.specs.declared.token.TokenKind.{TokenKind}
use Rattle.tp_lex.specs.declared.token.TokenKind.TheVariants as kind
use Rattle.tp_parse.specs.Tree.{Tree, Integer, Atom, Compound, Trees, first_of, unary, binary, list_cell, minus}
use Rattle.tp_parse.specs.Table.{Op, Table, right_bound}
use Rattle.tp_parse.specs.Ahead.{first_kind, after_first, opens_directly, is_integer_directly, first_value, is_minus_by, is_minus, infix_ahead, is_atom_before}
use Rattle.tp_parse.specs.Reading.{Inner, ◌>>=◌, closes_by, behind, bracketed, braced, after_arg, args, tail, after_element, elements, listed, prefixed_by, prefixed, named, primary_by, primary, is_taken, infix_part as part_by, infix_parts, reading}
use Rattle.tp_parse.specs.Grammar.{is_name, IsOtherName, Reads, whole, Begins, integer, variable, list_of_codes, parentheses, empty_brackets, empty_braces, list, braces, compound, negative, operator_as_atom, operator, atom, Elements, last_element, more_elements, element_and_tail, Arguments, last_argument, more_arguments, Goes, no_operator, above_bound, above_left_bound, infix_part}
use Rattle.tp_parse.proofs.OneReading.Tokens.{if_true, if_false, closes_other, opens, integer_directly, integer_opens_not, behind_ok, is_taken_true, is_taken_above, is_taken_left}

-- ---- what is read is shorter

mutual
  pub shorter-Reads : {ops : Table} {m p : ℕ} {ts : List Lexed} {x : Tree} {q : ℕ} {us : List Lexed} → Reads ops m p ts x q us → length us < length ts
  shorter-Reads (whole b g) = let h = shorter-Begins b in let k = shorter-Goes g in omega arith

  shorter-Begins : {ops : Table} {m p : ℕ} {ts : List Lexed} {x : Tree} {q : ℕ} {us : List Lexed} → Begins ops m p ts x q us → length us < length ts
  shorter-Begins (integer a b) = omega arith
  shorter-Begins (variable a) = omega arith
  shorter-Begins (list_of_codes a) = omega arith
  shorter-Begins (parentheses a r b) = let h = shorter-Reads r in omega arith
  shorter-Begins (empty_brackets a b) = omega arith
  shorter-Begins (empty_braces a b) = omega arith
  shorter-Begins (list a l) = let h = shorter-Elements l in omega arith
  shorter-Begins (braces a r b) = let h = shorter-Reads r in omega arith
  shorter-Begins (compound a b c l) = let h = shorter-Arguments l in omega arith
  shorter-Begins (negative a b c) = omega arith
  shorter-Begins (operator_as_atom a b c) = omega arith
  shorter-Begins (operator a b c d r) = let h = shorter-Reads r in omega arith
  shorter-Begins (atom a b) = omega arith

  shorter-Elements : {ops : Table} {m : ℕ} {ts : List Lexed} {x : Tree} {us : List Lexed} → Elements ops m ts x us → length us < length ts
  shorter-Elements (last_element r e) = let h = shorter-Reads r in omega arith
  shorter-Elements (more_elements r e l) = let h = shorter-Reads r in let k = shorter-Elements l in omega arith
  shorter-Elements (element_and_tail r e s d) = let h = shorter-Reads r in let k = shorter-Reads s in omega arith

  shorter-Arguments : {ops : Table} {m n : ℕ} {ts : List Lexed} {xs : Trees} {us : List Lexed} → Arguments ops m n ts xs us → length us < length ts
  shorter-Arguments (last_argument r e) = let h = shorter-Reads r in omega arith
  shorter-Arguments (more_arguments r e l) = let h = shorter-Reads r in let k = shorter-Arguments l in omega arith

  shorter-Goes : {ops : Table} {m p : ℕ} {x : Tree} {q : ℕ} {ts : List Lexed} {y : Tree} {r : ℕ} {us : List Lexed} → Goes ops m p x q ts y r us → length us ≤ length ts
  shorter-Goes (no_operator e) = omega arith
  shorter-Goes (above_bound e h) = omega arith
  shorter-Goes (above_left_bound e h) = omega arith
  shorter-Goes (infix_part e h k r g) = let a = shorter-Reads r in let b = shorter-Goes g in omega arith

-- ---- one step of the function at each rule

minus_is_name : (t : Lexed) → is_minus t ≡ true → is_name t.kind ≡ true
minus_is_name t e = go t.kind e
  where
    go : (k : TokenKind) → is_minus_by k t.name ≡ true → is_name k ≡ true
    go kind.Name e = refl
    go k e = cc

-- no primary begins with a closing token
pub begins_not_closing : {ops : Table} {m p : ℕ} {ts : List Lexed} {x : Tree} {q : ℕ} {us : List Lexed} (k : TokenKind) → closes_by k (Some k) ≡ true → Begins ops m p ts x q us → first_kind ts ≢ Some k
begins_not_closing k g b = λ z. differs k g b z
  where
    named_differs : (t k : TokenKind) → is_name t ≡ true → closes_by k (Some k) ≡ true → Some t ≡ Some k → ⊥
    named_differs kind.Name k e g z = let q : kind.Name ≡ k = cc in let i = subst (λ j. closes_by j (Some j) ≡ true) (sym q) g in cc
    named_differs kind.Quoted k e g z = let q : kind.Quoted ≡ k = cc in let i = subst (λ j. closes_by j (Some j) ≡ true) (sym q) g in cc
    named_differs t k e g z = cc

    kinds_differ : (t c k : TokenKind) → t ≡ c → closes_by c (Some c) ≡ false → closes_by k (Some k) ≡ true → Some t ≡ Some k → ⊥
    kinds_differ t c k e h g z = let q : c ≡ k = cc in let i = subst (λ j. closes_by j (Some j) ≡ false) q h in cc

    differs : {ops : Table} {m p : ℕ} {ts : List Lexed} {x : Tree} {q : ℕ} {us : List Lexed} (k : TokenKind) → closes_by k (Some k) ≡ true → Begins ops m p ts x q us → first_kind ts ≡ Some k → ⊥
    differs k g (integer {t = t} a b) z = kinds_differ t.kind kind.Integer k a refl g z
    differs k g (variable {t = t} a) z = kinds_differ t.kind kind.Variable k a refl g z
    differs k g (list_of_codes {t = t} a) z = kinds_differ t.kind kind.Codes k a refl g z
    differs k g (parentheses {t = t} a r b) z = kinds_differ t.kind kind.Open k a refl g z
    differs k g (empty_brackets {t = t} a b) z = kinds_differ t.kind kind.OpenList k a refl g z
    differs k g (empty_braces {t = t} a b) z = kinds_differ t.kind kind.OpenCurly k a refl g z
    differs k g (list {t = t} a l) z = kinds_differ t.kind kind.OpenList k a refl g z
    differs k g (braces {t = t} a r b) z = kinds_differ t.kind kind.OpenCurly k a refl g z
    differs k g (compound {t = t} a b c l) z = named_differs t.kind k a g z
    differs k g (negative {t = t} a b c) z = named_differs t.kind k (minus_is_name t a) g z
    differs k g (operator_as_atom {t = t} a b c) z = named_differs t.kind k a.name g z
    differs k g (operator {t = t} a b c d r) z = named_differs t.kind k a.name g z
    differs k g (atom {t = t} a b) z = named_differs t.kind k a.name g z

pub reads_not_closing : {ops : Table} {m p : ℕ} {ts : List Lexed} {x : Tree} {q : ℕ} {us : List Lexed} (k : TokenKind) → closes_by k (Some k) ≡ true → Reads ops m p ts x q us → first_kind ts ≢ Some k
reads_not_closing k g (whole b r) = begins_not_closing k g b

elements_not_closing : {ops : Table} {m : ℕ} {ts : List Lexed} {x : Tree} {us : List Lexed} → Elements ops m ts x us → first_kind ts ≢ Some kind.CloseList
elements_not_closing (last_element r e) = reads_not_closing kind.CloseList refl r
elements_not_closing (more_elements r e l) = reads_not_closing kind.CloseList refl r
elements_not_closing (element_and_tail r e s d) = reads_not_closing kind.CloseList refl r

module _ (ops : Table) (inner : Inner) (p : ℕ) (t : Lexed) (ts : List Lexed) where
  pub first_step : (k : TokenKind) → t.kind ≡ k → primary ops inner p (t ∷ ts) ≡ primary_by ops inner p t ts k
  unfolding primary
  first_step k e = ap (primary_by ops inner p t ts) e

  integer_step : t.kind ≡ kind.Integer → t.value < 2 ^ 63 → primary ops inner p (t ∷ ts) ≡ Ok (Integer (pos t.value), 0, ts)
  integer_step e h = let g : nat_lt t.value (2 ^ 63) ≡ true = grind arith in first_step kind.Integer e ∙ if_true (nat_lt t.value (2 ^ 63)) _ _ g

  pub named_step : is_name t.kind ≡ true → primary ops inner p (t ∷ ts) ≡ named ops inner p t ts
  named_step e = go t.kind refl e
    where
      go : (k : TokenKind) → t.kind ≡ k → is_name k ≡ true → primary ops inner p (t ∷ ts) ≡ named ops inner p t ts
      go kind.Name h e = first_step kind.Name h
      go kind.Quoted h e = first_step kind.Quoted h
      go k h e = cc

  pub other_step : IsOtherName t ts → primary ops inner p (t ∷ ts) ≡ prefixed_by ops inner p t.name ts (ops.prefixes t.name)
  unfolding named prefixed
  other_step o = named_step o.name ∙ if_false (opens_directly ts) _ _ o.no_compound ∙ if_false (is_minus t && is_integer_directly ts) _ _ o.no_sign

  atom_step : IsOtherName t ts → ops.prefixes t.name ≡ None → primary ops inner p (t ∷ ts) ≡ Ok (Atom t.name, 0, ts)
  atom_step o e = other_step o ∙ ap (prefixed_by ops inner p t.name ts) e

  operator_as_atom_step : (o : Op) → IsOtherName t ts → ops.prefixes t.name ≡ Some o → is_atom_before ops ts ≡ true → primary ops inner p (t ∷ ts) ≡ Ok (Atom t.name, 0, ts)
  operator_as_atom_step o n e b = other_step n ∙ ap (prefixed_by ops inner p t.name ts) e ∙ if_true (is_atom_before ops ts) _ _ b

  pub operator_step : (o : Op) → IsOtherName t ts → ops.prefixes t.name ≡ Some o → is_atom_before ops ts ≡ false → o.0 ≤ p →
      primary ops inner p (t ∷ ts) ≡ (inner (right_bound o) ts >>= λ r. Ok (unary t.name r.0, o.0, r.2))
  operator_step o n e b h =
      let g : nat_le o.0 p ≡ true = grind arith in
      other_step n ∙ ap (prefixed_by ops inner p t.name ts) e ∙ if_false (is_atom_before ops ts) _ _ b ∙ if_true (nat_le o.0 p) _ _ g

  pub operator_above_step : (o : Op) → IsOtherName t ts → ops.prefixes t.name ≡ Some o → is_atom_before ops ts ≡ false → (nat_le o.0 p ≡ false) →
      primary ops inner p (t ∷ ts) ≡ prefixed_by ops inner p t.name ts (Some o)
  operator_above_step o n e b h = other_step n ∙ ap (prefixed_by ops inner p t.name ts) e

  pub compound_step : (o : Lexed) (us : List Lexed) → ts ≡ o ∷ us → is_name t.kind ≡ true → o.kind ≡ kind.Open → o.direct ≡ true → primary ops inner p (t ∷ ts) ≡ (args inner 255 (after_first ts) >>= λ r. Ok (Compound t.name r.0, 0, r.1))
  unfolding named
  compound_step o us s n e d = named_step n ∙ if_true (opens_directly ts) _ _ (ap opens_directly s ∙ opens o us e d)

  negative_step : (i : Lexed) (us : List Lexed) → ts ≡ i ∷ us → is_minus t ≡ true → i.kind ≡ kind.Integer → i.direct ≡ true → primary ops inner p (t ∷ ts) ≡ Ok (Integer (minus (first_value ts)), 0, after_first ts)
  unfolding named
  negative_step i us s n e d =
      named_step (minus_is_name t n) ∙ if_false (opens_directly ts) _ _ (ap opens_directly s ∙ integer_opens_not i us e)
      ∙ if_true (is_minus t && is_integer_directly ts) _ _ (rw n (ap is_integer_directly s ∙ integer_directly i us e d))

  pub bracketed_step : (x : Tree) (q : ℕ) (us : List Lexed) → t.kind ≡ kind.Open → inner 1200 ts ≡ Ok (x, q, us) → primary ops inner p (t ∷ ts) ≡ (behind kind.Close us >>= λ vs. Ok (x, 0, vs))
  unfolding bracketed
  bracketed_step x q us e h = first_step kind.Open e ∙ ap (λ r. r >>= λ r. behind kind.Close r.2 >>= λ vs. Ok (r.0, 0, vs)) h

  pub braced_step : (x : Tree) (q : ℕ) (us : List Lexed) → t.kind ≡ kind.OpenCurly → first_kind ts ≢ Some kind.CloseCurly → inner 1200 ts ≡ Ok (x, q, us) →
      primary ops inner p (t ∷ ts) ≡ (behind kind.CloseCurly us >>= λ vs. Ok (unary (codes "{}") x, 0, vs))
  unfolding braced
  braced_step x q us e n h =
      first_step kind.OpenCurly e ∙ if_false (closes_by kind.CloseCurly (first_kind ts)) _ _ (closes_other kind.CloseCurly (first_kind ts) n)
      ∙ ap (λ r. r >>= λ r. behind kind.CloseCurly r.2 >>= λ vs. Ok (unary (codes "{}") r.0, 0, vs)) h

  pub listed_step : t.kind ≡ kind.OpenList → first_kind ts ≢ Some kind.CloseList → primary ops inner p (t ∷ ts) ≡ (elements inner (length ts) ts >>= λ r. Ok (r.0, 0, r.1))
  unfolding listed
  listed_step e n = first_step kind.OpenList e ∙ if_false (closes_by kind.CloseList (first_kind ts)) _ _ (closes_other kind.CloseList (first_kind ts) n)

  empty_braces_step : t.kind ≡ kind.OpenCurly → first_kind ts ≡ Some kind.CloseCurly → primary ops inner p (t ∷ ts) ≡ Ok (Atom (codes "{}"), 0, after_first ts)
  unfolding braced
  empty_braces_step e n = first_step kind.OpenCurly e ∙ if_true (closes_by kind.CloseCurly (first_kind ts)) _ _ (ap (closes_by kind.CloseCurly) n)

  empty_brackets_step : t.kind ≡ kind.OpenList → first_kind ts ≡ Some kind.CloseList → primary ops inner p (t ∷ ts) ≡ Ok (Atom (codes "[]"), 0, after_first ts)
  unfolding listed
  empty_brackets_step e n = first_step kind.OpenList e ∙ if_true (closes_by kind.CloseList (first_kind ts)) _ _ (ap (closes_by kind.CloseList) n)

module _ (inner : Inner) where
  pub args_step : (n : ℕ) (ts : List Lexed) → args inner (suc n) ts ≡ (inner 999 ts >>= λ r. after_arg (args inner n) n r.0 r.2 (first_kind r.2))
  unfolding args
  args_step n ts = refl

  pub args_behind : (n : ℕ) (ts us : List Lexed) (x : Tree) (q : ℕ) (k : Option TokenKind) → inner 999 ts ≡ Ok (x, q, us) → first_kind us ≡ k → args inner (suc n) ts ≡ after_arg (args inner n) n x us k
  args_behind n ts us x q k h e = args_step n ts ∙ ap (λ r. r >>= λ r. after_arg (args inner n) n r.0 r.2 (first_kind r.2)) h ∙ ap (after_arg (args inner n) n x us) e

  pub elements_step : (n : ℕ) (ts : List Lexed) → elements inner (suc n) ts ≡ (inner 999 ts >>= λ r. after_element inner (elements inner n) r.0 r.2 (first_kind r.2))
  unfolding elements
  elements_step n ts = refl

  pub elements_behind : (n : ℕ) (ts us : List Lexed) (x : Tree) (q : ℕ) (k : Option TokenKind) → inner 999 ts ≡ Ok (x, q, us) → first_kind us ≡ k → elements inner (suc n) ts ≡ after_element inner (elements inner n) x us k
  elements_behind n ts us x q k h e = elements_step n ts ∙ ap (λ r. r >>= λ r. after_element inner (elements inner n) r.0 r.2 (first_kind r.2)) h ∙ ap (after_element inner (elements inner n) x us) e

  pub tail_step : (ts us : List Lexed) (x : Tree) (q : ℕ) → inner 999 ts ≡ Ok (x, q, us) → tail inner ts ≡ (behind kind.CloseList us >>= λ vs. Ok (x, vs))
  tail_step ts us x q h = ap (λ r. r >>= λ r. behind kind.CloseList r.2 >>= λ vs. Ok (r.0, vs)) h

module _ (ops : Table) (inner : Inner) (p : ℕ) where
  parts_end : (n q : ℕ) (x : Tree) (ts : List Lexed) → infix_ahead ops ts ≡ None → infix_parts ops inner n p x q ts ≡ Ok (x, q, ts)
  unfolding infix_parts
  parts_end zero q x ts e = refl
  parts_end (suc n) q x ts e = rw e

  parts_left : (n q : ℕ) (x : Tree) (ts : List Lexed) (o : Name × Op) → infix_ahead ops ts ≡ Some o → is_taken o.1 p q ≡ false → infix_parts ops inner n p x q ts ≡ Ok (x, q, ts)
  unfolding infix_parts
  parts_left zero q x ts o e h = refl
  parts_left (suc n) q x ts o e h = ap (part_by inner (infix_parts ops inner n p) p x q ts) e ∙ if_false (is_taken o.1 p q) _ _ h

  pub parts_taken : (n q : ℕ) (x : Tree) (i : Lexed) (ts : List Lexed) (o : Name × Op) → infix_ahead ops (i ∷ ts) ≡ Some o → is_taken o.1 p q ≡ true →
      infix_parts ops inner (suc n) p x q (i ∷ ts) ≡ (inner (right_bound o.1) ts >>= λ r. infix_parts ops inner n p (binary o.0 x r.0) o.1.0 r.2)
  unfolding infix_parts
  parts_taken n q x i ts o e h = ap (part_by inner (infix_parts ops inner n p) p x q (i ∷ ts)) e ∙ if_true (is_taken o.1 p q) _ _ h

-- ---- complete

mutual
  unfolding reading

  pub complete : {ops : Table} {m p : ℕ} {ts : List Lexed} {x : Tree} {q : ℕ} {us : List Lexed} → Reads ops m p ts x q us → reading ops m p ts ≡ Ok (x, q, us)
  complete {ops} (whole {m} {p} {q} {r} {ts} {us} {vs} {x} {y} b g) =
      ap (λ z. z >>= λ y. infix_parts ops (reading ops m) (length y.2) p y.0 y.1 y.2) (complete-Begins b) ∙ complete-Goes g (length us) (omega arith)

  pub complete-Begins : {ops : Table} {m p : ℕ} {ts : List Lexed} {x : Tree} {q : ℕ} {us : List Lexed} → Begins ops m p ts x q us → primary ops (reading ops m) p ts ≡ Ok (x, q, us)
  complete-Begins {ops} (integer {m} {p} {t} {ts} e h) = integer_step ops (reading ops m) p t ts e h
  complete-Begins {ops} (variable {m} {p} {t} {ts} e) = first_step ops (reading ops m) p t ts kind.Variable e
  complete-Begins {ops} (list_of_codes {m} {p} {t} {ts} e) = first_step ops (reading ops m) p t ts kind.Codes e
  complete-Begins {ops} (parentheses {m} {p} {q} {t} {c} {ts} {us} {x} e r d) =
      bracketed_step ops (reading ops m) p t ts x q (c ∷ us) e (complete r) ∙ ap (λ b. b >>= λ vs. Ok (x, 0, vs)) (behind_ok kind.Close c us refl d)
  complete-Begins {ops} (empty_brackets {m} {p} {t} {c} {ts} e d) = empty_brackets_step ops (reading ops m) p t (c ∷ ts) e (ap Some d)
  complete-Begins {ops} (empty_braces {m} {p} {t} {c} {ts} e d) = empty_braces_step ops (reading ops m) p t (c ∷ ts) e (ap Some d)
  complete-Begins {ops} (list {m} {p} {t} {ts} {us} {x} e l) =
      listed_step ops (reading ops m) p t ts e (elements_not_closing l) ∙ ap (λ r. r >>= λ r. Ok (r.0, 0, r.1)) (complete-Elements l (length ts) (omega arith))
  complete-Begins {ops} (braces {m} {p} {q} {t} {c} {ts} {us} {x} e r d) =
      braced_step ops (reading ops m) p t ts x q (c ∷ us) e (reads_not_closing kind.CloseCurly refl r) (complete r) ∙ ap (λ b. b >>= λ vs. Ok (unary (codes "{}") x, 0, vs)) (behind_ok kind.CloseCurly c us refl d)
  complete-Begins {ops} (compound {m} {p} {t} {o} {ts} {us} {xs} n e d l) =
      compound_step ops (reading ops m) p t (o ∷ ts) o ts refl n e d ∙ ap (λ r. r >>= λ r. Ok (Compound t.name r.0, 0, r.1)) (complete-Arguments l)
  complete-Begins {ops} (negative {m} {p} {t} {i} {ts} n e d) = negative_step ops (reading ops m) p t (i ∷ ts) i ts refl n e d
  complete-Begins {ops} (operator_as_atom {m} {p} {t} {ts} {o} n e b) = operator_as_atom_step ops (reading ops m) p t ts o n e b
  complete-Begins {ops} (operator {m} {p} {q} {t} {ts} {us} {o} {x} n e b h r) =
      operator_step ops (reading ops m) p t ts o n e b h ∙ ap (λ r. r >>= λ r. Ok (unary t.name r.0, o.0, r.2)) (complete r)
  complete-Begins {ops} (atom {m} {p} {t} {ts} n e) = atom_step ops (reading ops m) p t ts n e

  pub complete-Elements : {ops : Table} {m : ℕ} {ts : List Lexed} {x : Tree} {us : List Lexed} → Elements ops m ts x us → (n : ℕ) → length ts ≤ n → elements (reading ops m) n ts ≡ Ok (x, us)
  complete-Elements (last_element r e) zero h = absurd (omega (arith, shorter-Reads r))
  complete-Elements {ops} (last_element {m} {q} {c} {ts} {us} {x} r e) (suc n) h = elements_behind (reading ops m) n ts (c ∷ us) x q (Some kind.CloseList) (complete r) (ap Some e)
  complete-Elements (more_elements r e l) zero h = absurd (omega (arith, shorter-Reads r))
  complete-Elements {ops} (more_elements {m} {q} {c} {ts} {us} {vs} {x} {y} r e l) (suc n) h =
      elements_behind (reading ops m) n ts (c ∷ us) x q (Some kind.Comma) (complete r) (ap Some e)
      ∙ ap (λ r. r >>= λ r. Ok (list_cell x r.0, r.1)) (complete-Elements l n (omega (arith, shorter-Reads r)))
  complete-Elements (element_and_tail r e s d) zero h = absurd (omega (arith, shorter-Reads r))
  complete-Elements {ops} (element_and_tail {m} {q} {r = r1} {b} {c} {ts} {us} {vs} {x} {y} r e s d) (suc n) h =
      elements_behind (reading ops m) n ts (b ∷ us) x q (Some kind.Bar) (complete r) (ap Some e)
      ∙ ap (λ r. r >>= λ r. Ok (list_cell x r.0, r.1)) (tail_step (reading ops m) us (c ∷ vs) y r1 (complete s) ∙ ap (λ b. b >>= λ vs. Ok (y, vs)) (behind_ok kind.CloseList c vs refl d))

  pub complete-Arguments : {ops : Table} {m n : ℕ} {ts : List Lexed} {xs : Trees} {us : List Lexed} → Arguments ops m n ts xs us → args (reading ops m) n ts ≡ Ok (xs, us)
  complete-Arguments {ops} (last_argument {m} {n} {q} {c} {ts} {us} {x} r e) = args_behind (reading ops m) n ts (c ∷ us) x q (Some kind.Close) (complete r) (ap Some e)
  complete-Arguments {ops} (more_arguments {m} {n} {q} {c} {ts} {us} {vs} {x} {xs} r e l) =
      args_behind (reading ops m) (suc n) ts (c ∷ us) x q (Some kind.Comma) (complete r) (ap Some e) ∙ ap (λ r. r >>= λ r. Ok (first_of x r.0, r.1)) (complete-Arguments l)

  pub complete-Goes : {ops : Table} {m p : ℕ} {x : Tree} {q : ℕ} {ts : List Lexed} {y : Tree} {r : ℕ} {us : List Lexed} → Goes ops m p x q ts y r us → (n : ℕ) → length ts ≤ n →
      infix_parts ops (reading ops m) n p x q ts ≡ Ok (y, r, us)
  complete-Goes {ops} (no_operator {m} {p} {q} {x} {ts} e) n h = parts_end ops (reading ops m) p n q x ts e
  complete-Goes {ops} (above_bound {m} {p} {q} {x} {ts} {f} {o} e k) n h = parts_left ops (reading ops m) p n q x ts (f, o) e (is_taken_above o p q k)
  complete-Goes {ops} (above_left_bound {m} {p} {q} {x} {ts} {f} {o} e k) n h = parts_left ops (reading ops m) p n q x ts (f, o) e (is_taken_left o p q k)
  complete-Goes (infix_part e a b r g) zero h = absurd (omega arith)
  complete-Goes {ops} (infix_part {m} {p} {q} {r = r1} {s} {x} {y} {z} {i} {ts} {us} {vs} {f} {o} e a b r g) (suc n) h =
      parts_taken ops (reading ops m) p n q x i ts (f, o) e (is_taken_true o p q a b)
      ∙ ap (λ r. r >>= λ r. infix_parts ops (reading ops m) n p (binary f x r.0) o.0 r.2) (complete r)
      ∙ complete-Goes g n (omega (arith, shorter-Reads r))
