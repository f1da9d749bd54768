-- Tests on tokens, and answers of the function of reading, by cases.
use Rattle.std.proofs.Common.{◌≡◌, ◌≢◌, ℕ, ◌<◌, ◌≤◌, Bool, true, false, ◌&&◌, cond, nat_le, List, [], ◌∷◌, Option, Some, None, Ok, Err, refl, ap, ◌∙◌, arith, ◌⊎◌, inl, inr}
use Rattle.tp_lex.specs.Tokens.{Lexed, is_end}
use Rattle.tp_lex.specs.declared.token.TokenKind.{TokenKind}
use Rattle.tp_lex.specs.declared.token.TokenKind.TheVariants as kind
use Rattle.tp_parse.specs.Table.{Op, left_bound}
use Rattle.tp_parse.specs.Ahead.{first_kind, after_first, is_open, is_integer, opens_directly, is_integer_directly}
use Rattle.tp_parse.specs.Reading.{Read, Stop, ◌>>=◌, closes_by, behind, is_taken}
use Rattle.tp_parse.specs.declared.fault.ReadCause.TheVariants as cause

-- ---- answers

pub bind_ok : {A B : Type 0} (r : Read A) (f : A → Read B) (y : B) → (r >>= f) ≡ Ok y → (x : A) × (r ≡ Ok x) × (f x ≡ Ok y)
bind_ok (Ok x) f y e = (x, refl, e)
bind_ok (Err d) f y e = cc

pub bind_err : {A B : Type 0} (r : Read A) (f : A → Read B) (e : Stop) → (r >>= f) ≡ Err e → (r ≡ Err e) ⊎ ((x : A) × (r ≡ Ok x) × (f x ≡ Err e))
bind_err (Ok x) f e h = inr (x, refl, h)
bind_err (Err d) f e h = inl (let q : d ≡ e = cc in ap Err q)

pub ok-of : {A : Type 0} {x y : A} → ◌≡◌ {A = Read A} (Ok x) (Ok y) → x ≡ y
ok-of e = cc

pub err-of : {A : Type 0} {x y : Stop} → ◌≡◌ {A = Read A} (Err x) (Err y) → x ≡ y
err-of e = cc

pub chosen : {A : Type 0} (b : Bool) (x y z : A) → cond b x y ≡ z → ((b ≡ true) × (x ≡ z)) ⊎ ((b ≡ false) × (y ≡ z))
chosen true x y z e = inl (refl, e)
chosen false x y z e = inr (refl, e)

pub if_true : {A : Type 0} (b : Bool) (x y : A) → b ≡ true → cond b x y ≡ x
if_true b x y e = rw e

pub if_false : {A : Type 0} (b : Bool) (x y : A) → b ≡ false → cond b x y ≡ y
if_false b x y e = rw e

pub both_true : (a b : Bool) → (a && b) ≡ true → (a ≡ true) × (b ≡ true)
both_true true b e = (refl, e)
both_true false b e = cc

-- ---- kinds

pub closes_same : (c : TokenKind) (k : Option TokenKind) → closes_by c (Some c) ≡ true → closes_by c k ≡ true → k ≡ Some c
closes_same kind.Close (Some kind.Close) g e = refl
closes_same kind.CloseList (Some kind.CloseList) g e = refl
closes_same kind.CloseCurly (Some kind.CloseCurly) g e = refl
closes_same c k g e = cc

pub closes_other : (c : TokenKind) (k : Option TokenKind) → k ≢ Some c → closes_by c k ≡ false
closes_other kind.Close (Some kind.Close) h = absurd (h refl)
closes_other kind.CloseList (Some kind.CloseList) h = absurd (h refl)
closes_other kind.CloseCurly (Some kind.CloseCurly) h = absurd (h refl)
closes_other c k h = refl

pub closes_false : (c : TokenKind) (k : Option TokenKind) → closes_by c (Some c) ≡ true → closes_by c k ≡ false → k ≢ Some c
closes_false c k g e h = let i = ap (closes_by c) h in cc

pub is_open_same : (k : TokenKind) → is_open k ≡ true → k ≡ kind.Open
is_open_same kind.Open e = refl
is_open_same k e = cc

pub is_integer_same : (k : TokenKind) → is_integer k ≡ true → k ≡ kind.Integer
is_integer_same kind.Integer e = refl
is_integer_same k e = cc

pub is_end_same : (k : TokenKind) → is_end k ≡ true → k ≡ kind.End
is_end_same kind.End e = refl
is_end_same k e = cc

pub is_end_other : (k : TokenKind) → k ≢ kind.End → is_end k ≡ false
is_end_other kind.End h = absurd (h refl)
is_end_other k h = refl

pub is_end_false : (k : TokenKind) → is_end k ≡ false → k ≢ kind.End
is_end_false k e h = let i = ap is_end h in cc

pub some_other : (k c : TokenKind) → k ≢ c → Some k ≢ Some c
some_other k c h e = h (let q : k ≡ c = cc in q)

pub some_differs : (k c : TokenKind) → Some k ≢ Some c → k ≢ c
some_differs k c h e = h (ap Some e)

pub opens : (o : Lexed) (ts : List Lexed) → o.kind ≡ kind.Open → o.direct ≡ true → opens_directly (o ∷ ts) ≡ true
opens o ts e d = ap (λ k. is_open k && o.direct) e ∙ d

pub opens_of : (o : Lexed) (ts : List Lexed) → opens_directly (o ∷ ts) ≡ true → (o.kind ≡ kind.Open) × (o.direct ≡ true)
opens_of o ts e = let b = both_true (is_open o.kind) o.direct e in (is_open_same o.kind b.0, b.1)

pub integer_directly : (i : Lexed) (ts : List Lexed) → i.kind ≡ kind.Integer → i.direct ≡ true → is_integer_directly (i ∷ ts) ≡ true
integer_directly i ts e d = ap (λ k. is_integer k && i.direct) e ∙ d

pub integer_directly_of : (i : Lexed) (ts : List Lexed) → is_integer_directly (i ∷ ts) ≡ true → (i.kind ≡ kind.Integer) × (i.direct ≡ true)
integer_directly_of i ts e = let b = both_true (is_integer i.kind) i.direct e in (is_integer_same i.kind b.0, b.1)

pub integer_opens_not : (i : Lexed) (ts : List Lexed) → i.kind ≡ kind.Integer → opens_directly (i ∷ ts) ≡ false
integer_opens_not i ts e = ap (λ k. is_open k && i.direct) e

-- ---- closing tokens

pub behind_ok : (k : TokenKind) (c : Lexed) (us : List Lexed) → closes_by k (Some k) ≡ true → c.kind ≡ k → behind k (c ∷ us) ≡ Ok us
unfolding behind
behind_ok k c us g e = ap (λ j. cond (closes_by k (Some j)) (Ok us) (Err (cause.Syntax, c ∷ us))) e ∙ ap (λ b. cond b (Ok us) (Err (cause.Syntax, c ∷ us))) g

pub behind_err : (k : TokenKind) (us : List Lexed) → first_kind us ≢ Some k → behind k us ≡ Err (cause.Syntax, us)
unfolding behind
behind_err k us h = ap (λ b. cond b (Ok (after_first us)) (Err (cause.Syntax, us))) (closes_other k (first_kind us) h)

pub behind_ok_of : (k : TokenKind) (us vs : List Lexed) → closes_by k (Some k) ≡ true → behind k us ≡ Ok vs → (c : Lexed) × (us ≡ c ∷ vs) × (c.kind ≡ k)
unfolding behind
behind_ok_of k [] vs g e =
    elim (chosen (closes_by k None) _ _ _ e) [
      | inl a ↦ let z = closes_same k None g a.0 in cc
      | inr a ↦ let z = a.1 in cc
    ]
behind_ok_of k (c ∷ us) vs g e =
    elim (chosen (closes_by k (Some c.kind)) _ _ _ e) [
      | inl a ↦ let z = closes_same k (Some c.kind) g a.0 in (c, ap (λ l. c ∷ l) (ok-of a.1), (let q : c.kind ≡ k = cc in q))
      | inr a ↦ let z = a.1 in cc
    ]

pub behind_err_of : (k : TokenKind) (us : List Lexed) (e : Stop) → closes_by k (Some k) ≡ true → behind k us ≡ Err e → (first_kind us ≢ Some k) × ((cause.Syntax, us) ≡ e)
unfolding behind
behind_err_of k us e g h =
    elim (chosen (closes_by k (first_kind us)) _ _ _ h) [
      | inl a ↦ let z = a.1 in cc
      | inr a ↦ (closes_false k (first_kind us) g a.0, err-of {A = List Lexed} a.1)
    ]

-- ---- infix operators

pub is_taken_true : (o : Op) (p q : ℕ) → o.0 ≤ p → q ≤ left_bound o → is_taken o p q ≡ true
is_taken_true o p q h g = let a : nat_le o.0 p ≡ true = grind arith in let b : nat_le q (left_bound o) ≡ true = grind arith in rw (a, b)

pub is_taken_above : (o : Op) (p q : ℕ) → p < o.0 → is_taken o p q ≡ false
is_taken_above o p q h = let a : nat_le o.0 p ≡ false = grind arith in rw a

pub is_taken_left : (o : Op) (p q : ℕ) → left_bound o < q → is_taken o p q ≡ false
is_taken_left o p q h = let a : nat_le q (left_bound o) ≡ false = grind arith in both (nat_le o.0 p) (nat_le q (left_bound o)) a
  where
    both : (x y : Bool) → y ≡ false → (x && y) ≡ false
    both true y e = e
    both false y e = refl

pub taken_of : (o : Op) (p q : ℕ) → is_taken o p q ≡ true → (o.0 ≤ p) × (q ≤ left_bound o)
taken_of o p q e = let b = both_true (nat_le o.0 p) (nat_le q (left_bound o)) e in (grind (arith, b.0), grind (arith, b.1))

pub not_taken_of : (o : Op) (p q : ℕ) → is_taken o p q ≡ false → (p < o.0) ⊎ (left_bound o < q)
not_taken_of o p q e = elim (either (nat_le o.0 p) (nat_le q (left_bound o)) e) [ inl a ↦ inl (grind (arith, a)) | inr a ↦ inr (grind (arith, a)) ]
  where
    either : (x y : Bool) → (x && y) ≡ false → (x ≡ false) ⊎ (y ≡ false)
    either true y e = inr e
    either false y e = inl refl
