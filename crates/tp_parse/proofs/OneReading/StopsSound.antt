-- Where the function stops, there is a stop, and for that cause.
use Rattle.std.proofs.Common.{◌≡◌, ◌≢◌, ℕ, zero, suc, ◌^◌, ◌<◌, ◌≤◌, true, ◌&&◌, nat_lt, nat_le, List, [], ◌∷◌, length, Option, Some, None, Ok, Err, refl, ap, subst, arith, codes, inl, inr}
use Rattle.tp_terms.specs.Term.{Name}
use Rattle.tp_lex.specs.Tokens.{Lexed}
use Rattle.tp_lex.specs.declared.token.TokenKind.{TokenKind}
use Rattle.tp_lex.specs.declared.token.TokenKind.TheVariants as kind
use Rattle.tp_parse.specs.Tree.{Tree, Compound, Trees, first_of, unary, binary, list_cell}
use Rattle.tp_parse.specs.Table.{Op, Table, right_bound}
use Rattle.tp_parse.specs.Ahead.{first_kind, after_first, opens_directly, is_integer_directly, is_minus, infix_ahead, is_atom_before}
use Rattle.tp_parse.specs.Reading.{Read, Stop, Term, ◌>>=◌, closes_by, behind, bracketed, braced, after_arg, args, tail, after_element, elements, listed, prefixed_by, prefixed, named, primary_by, primary, is_taken, infix_part as part_by, infix_parts, reading}
use Rattle.tp_parse.specs.Grammar.{is_name, IsOtherName, Reads}
use Rattle.tp_parse.specs.Stopping.{begins_none, Stops, too_deep, ended_too_deep, in_primary, in_infix_parts, StopsFirst, ended, no_primary, too_large, in_parentheses, no_close, in_list, in_braces, no_close_curly, in_compound, operator_above_bound, in_operand, StopsElements, in_element, behind_element, in_more_elements, in_tail, behind_tail, StopsArguments, in_argument, behind_argument, too_many, in_more_arguments, StopsBehind, in_right_operand, in_later_part}
use Rattle.tp_parse.specs.declared.fault.ReadCause.TheVariants as cause
use Rattle.tp_parse.proofs.OneReading.Tokens.{bind_err, err-of, chosen, closes_false, opens_of, behind_err_of, taken_of}
use Rattle.tp_parse.proofs.OneReading.Complete.{shorter-Reads}
use Rattle.tp_parse.proofs.OneReading.Sound.{sound, sound-Begins}

-- ---- by the kind of the token behind

-- behind an argument stands neither a comma nor a closing parenthesis
abbrev Unseparated : Option TokenKind → Type 0
Unseparated k = (k ≢ Some kind.Comma) × (k ≢ Some kind.Close)

abbrev Unlisted : Option TokenKind → Type 0
Unlisted k = (k ≢ Some kind.Comma) × (k ≢ Some kind.Bar) × (k ≢ Some kind.CloseList)

abbrev behind_first : Tree → Read (Tree × List Lexed) → Read (Tree × List Lexed)
behind_first x r = r >>= λ r. Ok (list_cell x r.0, r.1)

abbrev applied : Name → Read (Trees × List Lexed) → Read Term
applied f r = r >>= λ r. Ok (Compound f r.0, 0, r.1)

module _ (ops : Table) (m : ℕ) (inner : (p : ℕ) (ts : List Lexed) (e : Stop) → reading ops m p ts ≡ Err e → Stops ops m p ts e.0 e.1) where
  -- ---- arguments

  stop-after_arg : (n : ℕ) → (0 < n → (ts : List Lexed) (e : Stop) → args (reading ops m) n ts ≡ Err e → StopsArguments ops m n ts e.0 e.1) → (ts : List Lexed) (x : Term) (e : Stop) →
      reading ops m 999 ts ≡ Ok x → after_arg (args (reading ops m) n) n x.0 x.2 (first_kind x.2) ≡ Err e → StopsArguments ops m (suc n) ts e.0 e.1
  stop-after_arg n rec ts (x, q, []) e r h = subst (λ (e : Stop). StopsArguments ops m (suc n) ts e.0 e.1) (err-of h) (behind_argument (sound ops m 999 ts (x, q, []) r) (λ z. cc) (λ z. cc))
  stop-after_arg n rec ts (x, q, c ∷ us) e r h = go n c.kind refl rec h
    where
      unseparated : (n : ℕ) → Unseparated (Some c.kind) → ◌≡◌ {A = Read (Trees × List Lexed)} (Err (cause.Syntax, c ∷ us)) (Err e) → StopsArguments ops m (suc n) ts e.0 e.1
      unseparated n u h = subst (λ (e : Stop). StopsArguments ops m (suc n) ts e.0 e.1) (err-of h) (behind_argument (sound ops m 999 ts (x, q, c ∷ us) r) u.0 u.1)

      go : (n : ℕ) (k : TokenKind) → c.kind ≡ k → (0 < n → (ts : List Lexed) (e : Stop) → args (reading ops m) n ts ≡ Err e → StopsArguments ops m n ts e.0 e.1) →
          after_arg (args (reading ops m) n) n x (c ∷ us) (Some k) ≡ Err e → StopsArguments ops m (suc n) ts e.0 e.1
      go n kind.Close k rec h = cc
      go zero kind.Comma k rec h = subst (λ (e : Stop). StopsArguments ops m 1 ts e.0 e.1) (err-of h) (too_many (sound ops m 999 ts (x, q, c ∷ us) r) k)
      go (suc n) kind.Comma k rec h =
          elim (bind_err (args (reading ops m) (suc n) us) (λ z. Ok (first_of x z.0, z.1)) e h) [
            | inl a ↦ in_more_arguments (sound ops m 999 ts (x, q, c ∷ us) r) k (rec (omega arith) us e a)
            | inr a ↦ let z = a.2 in cc
          ]
      go n j k rec h = unseparated n (λ z. cc, λ z. cc) h

  stop-Arguments : (n : ℕ) (ts : List Lexed) (e : Stop) → 0 < n → args (reading ops m) n ts ≡ Err e → StopsArguments ops m n ts e.0 e.1
  unfolding args
  stop-Arguments zero ts e l h = absurd (omega arith)
  stop-Arguments (suc n) ts e l h =
      elim (bind_err (reading ops m 999 ts) (λ r. after_arg (args (reading ops m) n) n r.0 r.2 (first_kind r.2)) e h) [
        | inl a ↦ in_argument (inner 999 ts e a)
        | inr a ↦ stop-after_arg n (λ some us d. stop-Arguments n us d some) ts a.0 e a.1 a.2
      ]

  -- ---- elements

  stop-tail : (ts us : List Lexed) (x : Tree) (q : ℕ) (b : Lexed) (e : Stop) → Reads ops m 999 ts x q (b ∷ us) → b.kind ≡ kind.Bar → behind_first x (tail (reading ops m) us) ≡ Err e → StopsElements ops m ts e.0 e.1
  stop-tail ts us x q b e read h f =
      elim (bind_err (tail (reading ops m) us) (λ r. Ok (list_cell x r.0, r.1)) e f) [
        | inl a ↦ elim (bind_err (reading ops m 999 us) (λ r. behind kind.CloseList r.2 >>= λ vs. Ok (r.0, vs)) e a) [
          | inl b ↦ in_tail read h (inner 999 us e b)
          | inr b ↦ elim (bind_err (behind kind.CloseList b.0.2) (λ vs. Ok (b.0.0, vs)) e b.2) [
            | inl c ↦
                let s = behind_err_of kind.CloseList b.0.2 e refl c in
                subst (λ (e : Stop). StopsElements ops m ts e.0 e.1) s.1 (behind_tail read h (sound ops m 999 us b.0 b.1) s.0)
            | inr c ↦ let z = c.2 in cc
          ]
        ]
        | inr a ↦ let z = a.2 in cc
      ]

  stop-after_element : (n : ℕ) → ((ts : List Lexed) (e : Stop) → length ts ≤ n → elements (reading ops m) n ts ≡ Err e → StopsElements ops m ts e.0 e.1) → (ts : List Lexed) (x : Term) (e : Stop) → length ts ≤ suc n →
      reading ops m 999 ts ≡ Ok x → after_element (reading ops m) (elements (reading ops m) n) x.0 x.2 (first_kind x.2) ≡ Err e → StopsElements ops m ts e.0 e.1
  stop-after_element n rec ts (x, q, []) e l r h = subst (λ (e : Stop). StopsElements ops m ts e.0 e.1) (err-of h) (behind_element (sound ops m 999 ts (x, q, []) r) (λ z. cc) (λ z. cc) (λ z. cc))
  stop-after_element n rec ts (x, q, c ∷ us) e l r h = go c.kind refl h
    where
      unlisted : Unlisted (Some c.kind) → ◌≡◌ {A = Read (Tree × List Lexed)} (Err (cause.Syntax, c ∷ us)) (Err e) → StopsElements ops m ts e.0 e.1
      unlisted u h = subst (λ (e : Stop). StopsElements ops m ts e.0 e.1) (err-of h) (behind_element (sound ops m 999 ts (x, q, c ∷ us) r) u.0 u.1 u.2)

      go : (k : TokenKind) → c.kind ≡ k → after_element (reading ops m) (elements (reading ops m) n) x (c ∷ us) (Some k) ≡ Err e → StopsElements ops m ts e.0 e.1
      go kind.CloseList k h = cc
      go kind.Comma k h =
          let read = sound ops m 999 ts (x, q, c ∷ us) r in
          elim (bind_err (elements (reading ops m) n us) (λ z. Ok (list_cell x z.0, z.1)) e h) [
            | inl a ↦ in_more_elements read k (rec us e (omega (arith, l, shorter-Reads read)) a)
            | inr a ↦ let z = a.2 in cc
          ]
      go kind.Bar k h = stop-tail ts us x q c e (sound ops m 999 ts (x, q, c ∷ us) r) k h
      go j k h = unlisted (λ z. cc, λ z. cc, λ z. cc) h

  stop-nothing : (m : ℕ) → Stops ops m 999 [] cause.Syntax []
  stop-nothing zero = ended_too_deep
  stop-nothing (suc m) = in_primary ended

  stop-Elements : (n : ℕ) (ts : List Lexed) (e : Stop) → length ts ≤ n → elements (reading ops m) n ts ≡ Err e → StopsElements ops m ts e.0 e.1
  unfolding elements
  stop-Elements zero [] e l h = subst (λ (e : Stop). StopsElements ops m [] e.0 e.1) (err-of h) (in_element (stop-nothing m))
  stop-Elements zero (t ∷ ts) e l h = absurd (omega arith)
  stop-Elements (suc n) ts e l h =
      elim (bind_err (reading ops m 999 ts) (λ r. after_element (reading ops m) (elements (reading ops m) n) r.0 r.2 (first_kind r.2)) e h) [
        | inl a ↦ in_element (inner 999 ts e a)
        | inr a ↦ stop-after_element n (stop-Elements n) ts a.0 e l a.1 a.2
      ]

  -- ---- what begins with a name

  stop-prefixed : (p : ℕ) (t : Lexed) (ts : List Lexed) (e : Stop) → IsOtherName t ts → (o : Option Op) → ops.prefixes t.name ≡ o → prefixed_by ops (reading ops m) p t.name ts o ≡ Err e → StopsFirst ops m p (t ∷ ts) e.0 e.1
  stop-prefixed p t ts e other None is h = cc
  stop-prefixed p t ts e other (Some o) is h =
      elim (chosen (is_atom_before ops ts) _ _ _ h) [
        | inl a ↦ let z = a.1 in cc
        | inr a ↦ elim (chosen (nat_le o.0 p) _ _ _ a.1) [
          | inl b ↦ elim (bind_err (reading ops m (right_bound o) ts) (λ r. Ok (unary t.name r.0, o.0, r.2)) e b.1) [
            | inl k ↦ in_operand other is a.0 (grind (arith, b.0)) (inner (right_bound o) ts e k)
            | inr k ↦ let z = k.2 in cc
          ]
          | inr b ↦ subst (λ (e : Stop). StopsFirst ops m p (t ∷ ts) e.0 e.1) (err-of {A = Term} b.1) (operator_above_bound other is a.0 (grind (arith, b.0)))
        ]
      ]

  stop-compound : (p : ℕ) (t : Lexed) (ts : List Lexed) (e : Stop) → is_name t.kind ≡ true → opens_directly ts ≡ true → applied t.name (args (reading ops m) 255 (after_first ts)) ≡ Err e → StopsFirst ops m p (t ∷ ts) e.0 e.1
  stop-compound p t [] e n d h = cc
  stop-compound p t (o ∷ us) e n d h =
      elim (bind_err (args (reading ops m) 255 us) (λ r. Ok (Compound t.name r.0, 0, r.1)) e h) [
        | inl a ↦ let s = opens_of o us d in in_compound n s.0 s.1 (stop-Arguments 255 us e (omega arith) a)
        | inr a ↦ let z = a.2 in cc
      ]

  stop-named : (p : ℕ) (t : Lexed) (ts : List Lexed) (e : Stop) → is_name t.kind ≡ true → named ops (reading ops m) p t ts ≡ Err e → StopsFirst ops m p (t ∷ ts) e.0 e.1
  unfolding named prefixed
  stop-named p t ts e n h =
      elim (chosen (opens_directly ts) _ _ _ h) [
        | inl a ↦ stop-compound p t ts e n a.0 a.1
        | inr a ↦ elim (chosen (is_minus t && is_integer_directly ts) _ _ _ a.1) [
          | inl b ↦ let z = b.1 in cc
          | inr b ↦ stop-prefixed p t ts e (record { name = n; no_compound = a.0; no_sign = b.0 }) (ops.prefixes t.name) refl b.1
        ]
      ]

  -- ---- brackets

  stop-bracketed : (p : ℕ) (t : Lexed) (ts : List Lexed) (e : Stop) → t.kind ≡ kind.Open → bracketed (reading ops m) ts ≡ Err e → StopsFirst ops m p (t ∷ ts) e.0 e.1
  unfolding bracketed
  stop-bracketed p t ts e k h =
      elim (bind_err (reading ops m 1200 ts) (λ r. behind kind.Close r.2 >>= λ us. Ok (r.0, 0, us)) e h) [
        | inl a ↦ in_parentheses k (inner 1200 ts e a)
        | inr a ↦ elim (bind_err (behind kind.Close a.0.2) (λ us. Ok (a.0.0, 0, us)) e a.2) [
          | inl b ↦
              let s = behind_err_of kind.Close a.0.2 e refl b in
              subst (λ (e : Stop). StopsFirst ops m p (t ∷ ts) e.0 e.1) s.1 (no_close k (sound ops m 1200 ts a.0 a.1) s.0)
          | inr b ↦ let z = b.2 in cc
        ]
      ]

  stop-braced : (p : ℕ) (t : Lexed) (ts : List Lexed) (e : Stop) → t.kind ≡ kind.OpenCurly → braced (reading ops m) ts ≡ Err e → StopsFirst ops m p (t ∷ ts) e.0 e.1
  unfolding braced
  stop-braced p t ts e k h =
      elim (chosen (closes_by kind.CloseCurly (first_kind ts)) _ _ _ h) [
        | inl n ↦ let z = n.1 in cc
        | inr n ↦ elim (bind_err (reading ops m 1200 ts) (λ r. behind kind.CloseCurly r.2 >>= λ us. Ok (unary (codes "{}") r.0, 0, us)) e n.1) [
          | inl a ↦ in_braces k (closes_false kind.CloseCurly (first_kind ts) refl n.0) (inner 1200 ts e a)
          | inr a ↦ elim (bind_err (behind kind.CloseCurly a.0.2) (λ us. Ok (unary (codes "{}") a.0.0, 0, us)) e a.2) [
            | inl b ↦
                let s = behind_err_of kind.CloseCurly a.0.2 e refl b in
                subst (λ (e : Stop). StopsFirst ops m p (t ∷ ts) e.0 e.1) s.1 (no_close_curly k (sound ops m 1200 ts a.0 a.1) s.0)
            | inr b ↦ let z = b.2 in cc
          ]
        ]
      ]

  stop-listed : (p : ℕ) (t : Lexed) (ts : List Lexed) (e : Stop) → t.kind ≡ kind.OpenList → listed (reading ops m) ts ≡ Err e → StopsFirst ops m p (t ∷ ts) e.0 e.1
  unfolding listed
  stop-listed p t ts e k h =
      elim (chosen (closes_by kind.CloseList (first_kind ts)) _ _ _ h) [
        | inl n ↦ let z = n.1 in cc
        | inr n ↦ elim (bind_err (elements (reading ops m) (length ts) ts) (λ r. Ok (r.0, 0, r.1)) e n.1) [
          | inl a ↦ in_list k (closes_false kind.CloseList (first_kind ts) refl n.0) (stop-Elements (length ts) ts e (omega arith) a)
          | inr a ↦ let z = a.2 in cc
        ]
      ]

  -- ---- a primary, and infix parts

  stop-first : (p : ℕ) (t : Lexed) (ts : List Lexed) (e : Stop) (k : TokenKind) → t.kind ≡ k → primary_by ops (reading ops m) p t ts k ≡ Err e → StopsFirst ops m p (t ∷ ts) e.0 e.1
  stop-first p t ts e kind.Integer k h =
      elim (chosen (nat_lt t.value (2 ^ 63)) _ _ _ h) [
        | inl a ↦ let z = a.1 in cc
        | inr a ↦ subst (λ (e : Stop). StopsFirst ops m p (t ∷ ts) e.0 e.1) (err-of {A = Term} a.1) (too_large k (grind (arith, a.0)))
      ]
  stop-first p t ts e kind.Variable k h = cc
  stop-first p t ts e kind.Codes k h = cc
  stop-first p t ts e kind.Open k h = stop-bracketed p t ts e k h
  stop-first p t ts e kind.OpenList k h = stop-listed p t ts e k h
  stop-first p t ts e kind.OpenCurly k h = stop-braced p t ts e k h
  stop-first p t ts e kind.Name k h = stop-named p t ts e (ap is_name k) h
  stop-first p t ts e kind.Quoted k h = stop-named p t ts e (ap is_name k) h
  stop-first p t ts e j k h = subst (λ (e : Stop). StopsFirst ops m p (t ∷ ts) e.0 e.1) (err-of {A = Term} h) (no_primary (ap begins_none k))

  stop-First : (p : ℕ) (ts : List Lexed) (e : Stop) → primary ops (reading ops m) p ts ≡ Err e → StopsFirst ops m p ts e.0 e.1
  unfolding primary
  stop-First p [] e h = subst (λ (e : Stop). StopsFirst ops m p [] e.0 e.1) (err-of {A = Term} h) ended
  stop-First p (t ∷ ts) e h = stop-first p t ts e t.kind refl h

  stop-Behind : (n p : ℕ) (x : Tree) (q : ℕ) (ts : List Lexed) (e : Stop) → infix_parts ops (reading ops m) n p x q ts ≡ Err e → StopsBehind ops m p x q ts e.0 e.1
  unfolding infix_parts infix_ahead
  stop-Behind zero p x q ts e h = cc
  stop-Behind (suc n) p x q [] e h = cc
  stop-Behind (suc n) p x q (i ∷ ts) e h = go (infix_ahead ops (i ∷ ts)) refl (stop-Behind n) h
    where
      go : (o : Option (Name × Op)) → infix_ahead ops (i ∷ ts) ≡ o → ((p : ℕ) (x : Tree) (q : ℕ) (ts : List Lexed) (e : Stop) → infix_parts ops (reading ops m) n p x q ts ≡ Err e → StopsBehind ops m p x q ts e.0 e.1) →
          part_by (reading ops m) (infix_parts ops (reading ops m) n p) p x q (i ∷ ts) o ≡ Err e → StopsBehind ops m p x q (i ∷ ts) e.0 e.1
      go None is rec h = cc
      go (Some o) is rec h =
          elim (chosen (is_taken o.1 p q) _ _ _ h) [
            | inl a ↦
                let taken = taken_of o.1 p q a.0 in
                elim (bind_err (reading ops m (right_bound o.1) ts) (λ r. infix_parts ops (reading ops m) n p (binary o.0 x r.0) o.1.0 r.2) e a.1) [
                  | inl k ↦ in_right_operand is taken.0 taken.1 (inner (right_bound o.1) ts e k)
                  | inr k ↦ in_later_part is taken.0 taken.1 (sound ops m (right_bound o.1) ts k.0 k.1) (rec p _ _ k.0.2 e k.2)
                ]
            | inr a ↦ let z = a.1 in cc
          ]

pub stops : (ops : Table) (m p : ℕ) (ts : List Lexed) (e : Stop) → reading ops m p ts ≡ Err e → Stops ops m p ts e.0 e.1
unfolding reading
stops ops zero p [] e h = subst (λ (e : Stop). Stops ops zero p [] e.0 e.1) (err-of {A = Term} h) ended_too_deep
stops ops zero p (t ∷ ts) e h = subst (λ (e : Stop). Stops ops zero p (t ∷ ts) e.0 e.1) (err-of {A = Term} h) too_deep
stops ops (suc m) p ts e h =
    elim (bind_err (primary ops (reading ops m) p ts) (λ r. infix_parts ops (reading ops m) (length r.2) p r.0 r.1 r.2) e h) [
      | inl k ↦ in_primary (stop-First ops m (stops ops m) p ts e k)
      | inr k ↦ in_infix_parts (sound-Begins ops m (sound ops m) p ts k.0 k.1) (stop-Behind ops m (stops ops m) (length k.0.2) p k.0.0 k.0.1 k.0.2 e k.2)
    ]
