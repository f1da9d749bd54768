-- What the function reads, the grammar reads.
use Rattle.std.proofs.Common.{◌≡◌, ℕ, zero, suc, ◌^◌, ◌<◌, ◌≤◌, true, ◌&&◌, nat_lt, nat_le, List, [], ◌∷◌, length, Option, Some, None, Ok, refl, sym, ap, subst, arith, codes, inl, inr}
use Rattle.tp_terms.specs.Term.{Name}
use Rattle.tp_lex.specs.Tokens.{Lexed}
use Rattle.tp_lex.specs.declared.token.TokenKind.{TokenKind}
use Rattle.tp_lex.specs.declared.token.TokenKind.TheVariants as kind
use Rattle.tp_parse.specs.Tree.{Tree, Integer, Atom, Compound, Trees, first_of, unary, binary, list_cell, minus}
use Rattle.tp_parse.specs.Table.{Op, Table, right_bound}
use Rattle.tp_parse.specs.Ahead.{first_kind, after_first, opens_directly, is_integer_directly, first_value, is_minus, infix_ahead, is_atom_before}
use Rattle.tp_parse.specs.Reading.{Read, Term, ◌>>=◌, closes_by, behind, bracketed, braced, after_arg, args, tail, after_element, elements, listed, prefixed_by, prefixed, named, primary_by, primary, is_taken, infix_part as part_by, infix_parts, reading}
use Rattle.tp_parse.specs.Grammar.{is_name, IsOtherName, Reads, whole, Begins, integer, variable, list_of_codes, parentheses, empty_brackets, empty_braces, list, braces, compound, negative, operator_as_atom, operator, atom, Elements, last_element, more_elements, element_and_tail, Arguments, last_argument, more_arguments, Goes, no_operator, above_bound, above_left_bound, infix_part}
use Rattle.tp_parse.proofs.OneReading.Tokens.{bind_ok, ok-of, chosen, both_true, closes_same, opens_of, integer_directly_of, behind_ok_of, taken_of, not_taken_of}
use Rattle.tp_parse.proofs.OneReading.Complete.{shorter-Reads}

module _ (ops : Table) (m : ℕ) (inner : (p : ℕ) (ts : List Lexed) (r : Term) → reading ops m p ts ≡ Ok r → Reads ops m p ts r.0 r.1 r.2) where
  -- a term and the token that closes it
  sound-closed : (k : TokenKind) (p : ℕ) (ts us : List Lexed) (x : Term) → closes_by k (Some k) ≡ true → reading ops m p ts ≡ Ok x → behind k x.2 ≡ Ok us → (c : Lexed) × Reads ops m p ts x.0 x.1 (c ∷ us) × (c.kind ≡ k)
  sound-closed k p ts us x g e f =
      let b = behind_ok_of k x.2 us g f in
      (b.0, subst (λ l. Reads ops m p ts x.0 x.1 l) b.1 (inner p ts x e), b.2)

  -- ---- arguments

  sound-after_arg : (n : ℕ) → ((ts : List Lexed) (r : Trees × List Lexed) → args (reading ops m) n ts ≡ Ok r → Arguments ops m n ts r.0 r.1) → (ts : List Lexed) (x : Term) (r : Trees × List Lexed) →
      reading ops m 999 ts ≡ Ok x → after_arg (args (reading ops m) n) n x.0 x.2 (first_kind x.2) ≡ Ok r → Arguments ops m (suc n) ts r.0 r.1
  sound-after_arg n rec ts (x, q, []) r e f = cc
  sound-after_arg n rec ts (x, q, c ∷ us) r e f = go n c.kind refl rec f
    where
      go : (n : ℕ) (k : TokenKind) → c.kind ≡ k → ((ts : List Lexed) (r : Trees × List Lexed) → args (reading ops m) n ts ≡ Ok r → Arguments ops m n ts r.0 r.1) →
          after_arg (args (reading ops m) n) n x (c ∷ us) (Some k) ≡ Ok r → Arguments ops m (suc n) ts r.0 r.1
      go n kind.Close h rec f = subst (λ (r : Trees × List Lexed). Arguments ops m (suc n) ts r.0 r.1) (ok-of f) (last_argument (inner 999 ts (x, q, c ∷ us) e) h)
      go zero kind.Comma h rec f = cc
      go (suc n) kind.Comma h rec f =
          let (y, g, k) = bind_ok (args (reading ops m) (suc n) us) (λ z. Ok (first_of x z.0, z.1)) r f in
          subst (λ (r : Trees × List Lexed). Arguments ops m (suc (suc n)) ts r.0 r.1) (ok-of k) (more_arguments (inner 999 ts (x, q, c ∷ us) e) h (rec us y g))
      go n k h rec f = cc

  sound-Arguments : (n : ℕ) (ts : List Lexed) (r : Trees × List Lexed) → args (reading ops m) n ts ≡ Ok r → Arguments ops m n ts r.0 r.1
  unfolding args
  sound-Arguments zero ts r e = cc
  sound-Arguments (suc n) ts r e =
      let (x, f, g) = bind_ok (reading ops m 999 ts) (λ x. after_arg (args (reading ops m) n) n x.0 x.2 (first_kind x.2)) r e in
      sound-after_arg n (sound-Arguments n) ts x r f g

  -- ---- elements

  sound-tail : (ts us : List Lexed) (x : Tree) (q : ℕ) (b : Lexed) (r : Tree × List Lexed) → Reads ops m 999 ts x q (b ∷ us) → b.kind ≡ kind.Bar → (tail (reading ops m) us >>= λ r. Ok (list_cell x r.0, r.1)) ≡ Ok r → Elements ops m ts r.0 r.1
  sound-tail ts us x q b r read h f =
      let (y, g, k) = bind_ok (tail (reading ops m) us) (λ r. Ok (list_cell x r.0, r.1)) r f in
      let (z, i, j) = bind_ok (reading ops m 999 us) (λ r. behind kind.CloseList r.2 >>= λ vs. Ok (r.0, vs)) y g in
      let (vs, v, w) = bind_ok (behind kind.CloseList z.2) (λ vs. Ok (z.0, vs)) y j in
      let c = sound-closed kind.CloseList 999 us vs z refl i v in
      let y-is : y ≡ (z.0, vs) = sym (ok-of w) in
      subst (λ (r : Tree × List Lexed). Elements ops m ts r.0 r.1) (ok-of k) (subst (λ (y : Tree × List Lexed). Elements ops m ts (list_cell x y.0) y.1) (sym y-is) (element_and_tail {c = c.0} {x = x} read h c.1 c.2))

  sound-after_element : (n : ℕ) → ((ts : List Lexed) (r : Tree × List Lexed) → elements (reading ops m) n ts ≡ Ok r → Elements ops m ts r.0 r.1) → (ts : List Lexed) (x : Term) (r : Tree × List Lexed) →
      reading ops m 999 ts ≡ Ok x → after_element (reading ops m) (elements (reading ops m) n) x.0 x.2 (first_kind x.2) ≡ Ok r → Elements ops m ts r.0 r.1
  sound-after_element n rec ts (x, q, []) r e f = cc
  sound-after_element n rec ts (x, q, c ∷ us) r e f = go c.kind refl f
    where
      go : (k : TokenKind) → c.kind ≡ k → after_element (reading ops m) (elements (reading ops m) n) x (c ∷ us) (Some k) ≡ Ok r → Elements ops m ts r.0 r.1
      go kind.CloseList h f = subst (λ (r : Tree × List Lexed). Elements ops m ts r.0 r.1) (ok-of f) (last_element (inner 999 ts (x, q, c ∷ us) e) h)
      go kind.Comma h f =
          let (y, g, k) = bind_ok (elements (reading ops m) n us) (λ r. Ok (list_cell x r.0, r.1)) r f in
          subst (λ (r : Tree × List Lexed). Elements ops m ts r.0 r.1) (ok-of k) (more_elements (inner 999 ts (x, q, c ∷ us) e) h (rec us y g))
      go kind.Bar h f = sound-tail ts us x q c r (inner 999 ts (x, q, c ∷ us) e) h f
      go k h f = cc

  sound-Elements : (n : ℕ) (ts : List Lexed) (r : Tree × List Lexed) → elements (reading ops m) n ts ≡ Ok r → Elements ops m ts r.0 r.1
  unfolding elements
  sound-Elements zero ts r e = cc
  sound-Elements (suc n) ts r e =
      let (x, f, g) = bind_ok (reading ops m 999 ts) (λ x. after_element (reading ops m) (elements (reading ops m) n) x.0 x.2 (first_kind x.2)) r e in
      sound-after_element n (sound-Elements n) ts x r f g

  -- ---- what begins with a name

  sound-prefixed : (p : ℕ) (t : Lexed) (ts : List Lexed) (r : Term) → IsOtherName t ts → (o : Option Op) → ops.prefixes t.name ≡ o → prefixed_by ops (reading ops m) p t.name ts o ≡ Ok r → Begins ops m p (t ∷ ts) r.0 r.1 r.2
  sound-prefixed p t ts r other None is e = subst (λ (r : Term). Begins ops m p (t ∷ ts) r.0 r.1 r.2) (ok-of e) (atom other is)
  sound-prefixed p t ts r other (Some o) is e =
      elim (chosen (is_atom_before ops ts) _ _ _ e) [
        | inl a ↦ subst (λ (r : Term). Begins ops m p (t ∷ ts) r.0 r.1 r.2) (ok-of a.1) (operator_as_atom other is a.0)
        | inr a ↦ elim (chosen (nat_le o.0 p) _ _ _ a.1) [
          | inl b ↦
              let (x, g, k) = bind_ok (reading ops m (right_bound o) ts) (λ r. Ok (unary t.name r.0, o.0, r.2)) r b.1 in
              let low : o.0 ≤ p = grind (arith, b.0) in
              subst (λ (r : Term). Begins ops m p (t ∷ ts) r.0 r.1 r.2) (ok-of k) (operator other is a.0 low (inner (right_bound o) ts x g))
          | inr b ↦ let z = b.1 in cc
        ]
      ]

  sound-compound : (p : ℕ) (t : Lexed) (ts : List Lexed) (r : Term) → is_name t.kind ≡ true → opens_directly ts ≡ true → (args (reading ops m) 255 (after_first ts) >>= λ r. Ok (Compound t.name r.0, 0, r.1)) ≡ Ok r → Begins ops m p (t ∷ ts) r.0 r.1 r.2
  sound-compound p t [] r n d e = cc
  sound-compound p t (o ∷ us) r n d e =
      let (x, g, k) = bind_ok (args (reading ops m) 255 us) (λ r. Ok (Compound t.name r.0, 0, r.1)) r e in
      let s = opens_of o us d in
      subst (λ (r : Term). Begins ops m p (t ∷ o ∷ us) r.0 r.1 r.2) (ok-of k) (compound n s.0 s.1 (sound-Arguments 255 us x g))

  sound-negative : (p : ℕ) (t : Lexed) (ts : List Lexed) (r : Term) → is_minus t ≡ true → is_integer_directly ts ≡ true → ◌≡◌ {A = Read Term} (Ok (Integer (minus (first_value ts)), 0, after_first ts)) (Ok r) → Begins ops m p (t ∷ ts) r.0 r.1 r.2
  sound-negative p t [] r n d e = cc
  sound-negative p t (i ∷ us) r n d e = let s = integer_directly_of i us d in subst (λ (r : Term). Begins ops m p (t ∷ i ∷ us) r.0 r.1 r.2) (ok-of e) (negative n s.0 s.1)

  sound-named : (p : ℕ) (t : Lexed) (ts : List Lexed) (r : Term) → is_name t.kind ≡ true → named ops (reading ops m) p t ts ≡ Ok r → Begins ops m p (t ∷ ts) r.0 r.1 r.2
  unfolding named prefixed
  sound-named p t ts r n e =
      elim (chosen (opens_directly ts) _ _ _ e) [
        | inl a ↦ sound-compound p t ts r n a.0 a.1
        | inr a ↦ elim (chosen (is_minus t && is_integer_directly ts) _ _ _ a.1) [
          | inl b ↦ let s = both_true (is_minus t) (is_integer_directly ts) b.0 in sound-negative p t ts r s.0 s.1 b.1
          | inr b ↦ sound-prefixed p t ts r (record { name = n; no_compound = a.0; no_sign = b.0 }) (ops.prefixes t.name) refl b.1
        ]
      ]

  -- ---- brackets

  sound-bracketed : (p : ℕ) (t : Lexed) (ts : List Lexed) (r : Term) → t.kind ≡ kind.Open → bracketed (reading ops m) ts ≡ Ok r → Begins ops m p (t ∷ ts) r.0 r.1 r.2
  unfolding bracketed
  sound-bracketed p t ts r h e =
      let (x, f, g) = bind_ok (reading ops m 1200 ts) (λ r. behind kind.Close r.2 >>= λ us. Ok (r.0, 0, us)) r e in
      let (us, v, w) = bind_ok (behind kind.Close x.2) (λ us. Ok (x.0, 0, us)) r g in
      let c = sound-closed kind.Close 1200 ts us x refl f v in
      subst (λ (r : Term). Begins ops m p (t ∷ ts) r.0 r.1 r.2) (ok-of w) (parentheses h c.1 c.2)

  empty_before : (k : TokenKind) (ts : List Lexed) → closes_by k (Some k) ≡ true → closes_by k (first_kind ts) ≡ true → (c : Lexed) × (ts ≡ c ∷ after_first ts) × (c.kind ≡ k)
  empty_before k [] g e = let z = closes_same k None g e in cc
  empty_before k (c ∷ us) g e = let z = closes_same k (Some c.kind) g e in (c, refl, (let q : c.kind ≡ k = cc in q))

  sound-braced : (p : ℕ) (t : Lexed) (ts : List Lexed) (r : Term) → t.kind ≡ kind.OpenCurly → braced (reading ops m) ts ≡ Ok r → Begins ops m p (t ∷ ts) r.0 r.1 r.2
  unfolding braced
  sound-braced p t ts r h e =
      elim (chosen (closes_by kind.CloseCurly (first_kind ts)) _ _ _ e) [
        | inl a ↦
            let c = empty_before kind.CloseCurly ts refl a.0 in
            let made : Begins ops m p (t ∷ c.0 ∷ after_first ts) (Atom (codes "{}")) 0 (after_first ts) = empty_braces h c.2 in
            subst (λ (r : Term). Begins ops m p (t ∷ ts) r.0 r.1 r.2) (ok-of a.1) (subst (λ l. Begins ops m p (t ∷ l) (Atom (codes "{}")) 0 (after_first ts)) (sym c.1) made)
        | inr a ↦
            let (x, f, g) = bind_ok (reading ops m 1200 ts) (λ r. behind kind.CloseCurly r.2 >>= λ us. Ok (unary (codes "{}") r.0, 0, us)) r a.1 in
            let (us, v, w) = bind_ok (behind kind.CloseCurly x.2) (λ us. Ok (unary (codes "{}") x.0, 0, us)) r g in
            let c = sound-closed kind.CloseCurly 1200 ts us x refl f v in
            subst (λ (r : Term). Begins ops m p (t ∷ ts) r.0 r.1 r.2) (ok-of w) (braces h c.1 c.2)
      ]

  sound-listed : (p : ℕ) (t : Lexed) (ts : List Lexed) (r : Term) → t.kind ≡ kind.OpenList → listed (reading ops m) ts ≡ Ok r → Begins ops m p (t ∷ ts) r.0 r.1 r.2
  unfolding listed
  sound-listed p t ts r h e =
      elim (chosen (closes_by kind.CloseList (first_kind ts)) _ _ _ e) [
        | inl a ↦
            let c = empty_before kind.CloseList ts refl a.0 in
            let made : Begins ops m p (t ∷ c.0 ∷ after_first ts) (Atom (codes "[]")) 0 (after_first ts) = empty_brackets h c.2 in
            subst (λ (r : Term). Begins ops m p (t ∷ ts) r.0 r.1 r.2) (ok-of a.1) (subst (λ l. Begins ops m p (t ∷ l) (Atom (codes "[]")) 0 (after_first ts)) (sym c.1) made)
        | inr a ↦
            let (x, f, g) = bind_ok (elements (reading ops m) (length ts) ts) (λ r. Ok (r.0, 0, r.1)) r a.1 in
            subst (λ (r : Term). Begins ops m p (t ∷ ts) r.0 r.1 r.2) (ok-of g) (list h (sound-Elements (length ts) ts x f))
      ]

  -- ---- a primary, and infix parts

  sound-first : (p : ℕ) (t : Lexed) (ts : List Lexed) (r : Term) (k : TokenKind) → t.kind ≡ k → primary_by ops (reading ops m) p t ts k ≡ Ok r → Begins ops m p (t ∷ ts) r.0 r.1 r.2
  sound-first p t ts r kind.Integer h e =
      elim (chosen (nat_lt t.value (2 ^ 63)) _ _ _ e) [
        | inl a ↦ let small : t.value < 2 ^ 63 = grind (arith, a.0) in subst (λ (r : Term). Begins ops m p (t ∷ ts) r.0 r.1 r.2) (ok-of a.1) (integer h small)
        | inr a ↦ let z = a.1 in cc
      ]
  sound-first p t ts r kind.Variable h e = subst (λ (r : Term). Begins ops m p (t ∷ ts) r.0 r.1 r.2) (ok-of e) (variable h)
  sound-first p t ts r kind.Codes h e = subst (λ (r : Term). Begins ops m p (t ∷ ts) r.0 r.1 r.2) (ok-of e) (list_of_codes h)
  sound-first p t ts r kind.Open h e = sound-bracketed p t ts r h e
  sound-first p t ts r kind.OpenList h e = sound-listed p t ts r h e
  sound-first p t ts r kind.OpenCurly h e = sound-braced p t ts r h e
  sound-first p t ts r kind.Name h e = sound-named p t ts r (ap is_name h) e
  sound-first p t ts r kind.Quoted h e = sound-named p t ts r (ap is_name h) e
  sound-first p t ts r k h e = cc

  pub sound-Begins : (p : ℕ) (ts : List Lexed) (r : Term) → primary ops (reading ops m) p ts ≡ Ok r → Begins ops m p ts r.0 r.1 r.2
  unfolding primary
  sound-Begins p [] r e = cc
  sound-Begins p (t ∷ ts) r e = sound-first p t ts r t.kind refl e

  pub sound-Goes : (n p : ℕ) (x : Tree) (q : ℕ) (ts : List Lexed) (r : Term) → length ts ≤ n → infix_parts ops (reading ops m) n p x q ts ≡ Ok r → Goes ops m p x q ts r.0 r.1 r.2
  unfolding infix_parts infix_ahead
  sound-Goes zero p x q [] r h e = subst (λ (r : Term). Goes ops m p x q [] r.0 r.1 r.2) (ok-of e) (no_operator refl)
  sound-Goes zero p x q (i ∷ ts) r h e = absurd (omega arith)
  sound-Goes (suc n) p x q [] r h e = subst (λ (r : Term). Goes ops m p x q [] r.0 r.1 r.2) (ok-of e) (no_operator refl)
  sound-Goes (suc n) p x q (i ∷ ts) r h e = go (infix_ahead ops (i ∷ ts)) refl (sound-Goes n) e
    where
      go : (o : Option (Name × Op)) → infix_ahead ops (i ∷ ts) ≡ o → ((p : ℕ) (x : Tree) (q : ℕ) (ts : List Lexed) (r : Term) → length ts ≤ n → infix_parts ops (reading ops m) n p x q ts ≡ Ok r → Goes ops m p x q ts r.0 r.1 r.2) →
          part_by (reading ops m) (infix_parts ops (reading ops m) n p) p x q (i ∷ ts) o ≡ Ok r → Goes ops m p x q (i ∷ ts) r.0 r.1 r.2
      go None is rec e = subst (λ (r : Term). Goes ops m p x q (i ∷ ts) r.0 r.1 r.2) (ok-of e) (no_operator is)
      go (Some o) is rec e =
          elim (chosen (is_taken o.1 p q) _ _ _ e) [
            | inl a ↦
                let (y, f, g) = bind_ok (reading ops m (right_bound o.1) ts) (λ r. infix_parts ops (reading ops m) n p (binary o.0 x r.0) o.1.0 r.2) r a.1 in
                let read = inner (right_bound o.1) ts y f in
                let taken = taken_of o.1 p q a.0 in
                infix_part is taken.0 taken.1 read (rec p _ _ y.2 r (omega (arith, shorter-Reads read)) g)
            | inr a ↦ subst (λ (r : Term). Goes ops m p x q (i ∷ ts) r.0 r.1 r.2) (ok-of a.1) (elim (not_taken_of o.1 p q a.0) [ inl b ↦ above_bound is b | inr b ↦ above_left_bound is b ])
          ]

pub sound : (ops : Table) (m p : ℕ) (ts : List Lexed) (r : Term) → reading ops m p ts ≡ Ok r → Reads ops m p ts r.0 r.1 r.2
unfolding reading
sound ops zero p [] r e = cc
sound ops zero p (t ∷ ts) r e = cc
sound ops (suc m) p ts r e =
    let (x, f, g) = bind_ok (primary ops (reading ops m) p ts) (λ r. infix_parts ops (reading ops m) (length r.2) p r.0 r.1 r.2) r e in
    whole (sound-Begins ops m (sound ops m) p ts x f) (sound-Goes ops m (sound ops m) (length x.2) p x.0 x.1 x.2 r (omega arith) g)
