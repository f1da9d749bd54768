-- Where equations have a solution, solving them finds one.
use Rattle.std.proofs.Common.{◌≡◌, ℕ, zero, suc, ◌+◌, ◌<◌, ◌≤◌, Bool, true, false, nat_eq, nat_lt, ◌&&◌, ◌||◌, cond, List, [], ◌∷◌, ◌++◌, length, Option, None, refl, ap, sym, ◌∙◌, arith, ◌⊎◌, inl, inr, length-append}
use Rattle.std.proofs.lemmas.Bool.{eqb-true, eq-eqb}
use Rattle.std.proofs.lemmas.Slice.Eq.{bytes_eq-Decides}
use Rattle.std.proofs.lemmas.Bool.Decides.{Decides-int_eq}
use Rattle.tp_terms.specs.Term.{Term, Terms, Var, Int, Atom, Comp, NoMore, More, replaced, all_replaced, occurs, occurs_in, term_eq, names_eq, count_of, term_size, terms_size}
use Rattle.tp_meaning.specs.Subst.{Idem, Subst, Equations, Next, mgu, value_at, apply, extended, for_one, bound_to, bind, solve_pair, walk, rounds, size_under, pairs_of}
use Rattle.tp_meaning.proofs.Unification.Replaced.{replaced-replaced, replaced-same, or_true}
use Rattle.tp_meaning.proofs.Unification.Solved.{differ, or_either, either, Equal, Over, Free, over_term, over_extended, value-extended, occurs-replaced, idem_extended, replaced-itself, free_applied, unbound, one_free, pairs_join, flip_eq}

abbrev mem : ℕ → List ℕ → Bool
mem w [] = false
mem w (x ∷ xs) = nat_eq w x || mem w xs

abbrev without : ℕ → List ℕ → List ℕ
without v [] = []
without v (x ∷ xs) = cond (nat_eq v x) (without v xs) (x ∷ without v xs)

no_longer : (v : ℕ) (xs : List ℕ) → length (without v xs) ≤ length xs
no_longer v [] = omega arith
no_longer v (x ∷ xs) = go (nat_eq v x) (no_longer v xs)
  where
    go : (b : Bool) → length (without v xs) ≤ length xs → length (cond b (without v xs) (x ∷ without v xs)) ≤ suc (length xs)
    go true h = omega arith
    go false h = omega arith

shorter : (v : ℕ) (xs : List ℕ) → mem v xs ≡ true → length (without v xs) < length xs
shorter v [] e = absurd (cc)
shorter v (x ∷ xs) e = go (nat_eq v x) e (no_longer v xs) (shorter v xs)
  where
    go : (b : Bool) → (b || mem v xs) ≡ true → length (without v xs) ≤ length xs → (mem v xs ≡ true → length (without v xs) < length xs) → length (cond b (without v xs) (x ∷ without v xs)) < suc (length xs)
    go true e' h ih = omega arith
    go false e' h ih = let k = ih e' in omega (arith, k)

still_in : (v w : ℕ) (xs : List ℕ) → nat_eq v w ≡ false → mem w xs ≡ true → mem w (without v xs) ≡ true
still_in v w [] n e = e
still_in v w (x ∷ xs) n e = go (nat_eq v x) (nat_eq w x) refl refl e (still_in v w xs n)
  where
    go : (b c : Bool) → nat_eq v x ≡ b → nat_eq w x ≡ c → (c || mem w xs) ≡ true → (mem w xs ≡ true → mem w (without v xs) ≡ true) → mem w (cond b (without v xs) (x ∷ without v xs)) ≡ true
    go true true eb ec e' ih = absurd (differ (nat_eq v w) (eq-eqb v w (eqb-true v x eb ∙ sym (eqb-true w x ec))) n)
    go true false eb ec e' ih = ih e'
    go false true eb ec e' ih = ap (λ d. d || mem w (without v xs)) ec
    go false false eb ec e' ih = ap (λ d. d || mem w (without v xs)) ec ∙ ih e'

-- each variable of the term is among these
record In (xs : List ℕ) (t : Term) : Type 0 where
  at : (w : ℕ) → occurs w t ≡ true → mem w xs ≡ true

record AllIn (xs : List ℕ) (ts : Terms) : Type 0 where
  at : (w : ℕ) → occurs_in w ts ≡ true → mem w xs ≡ true

abbrev Within : List ℕ → Subst → Equations → Type 0
Within xs s [] = Unit {0}
Within xs s (e ∷ es) = In xs (apply s e.0) × In xs (apply s e.1) × Within xs s es

pub apply-extended : (v : ℕ) (t : Term) (s : Subst) (y : Term) → bound_to s v ≡ None → apply (extended s v t) y ≡ replaced (for_one v t) (apply s y)
apply-extended v t s y h = replaced-same (value_at (extended s v t)) (λ x. replaced (for_one v t) (value_at s x)) y (λ x _. value-extended v x t s h) ∙ sym (replaced-replaced (for_one v t) (value_at s) y)

in_bound : (xs : List ℕ) (v : ℕ) (t : Term) (s : Subst) (y : Term) → bound_to s v ≡ None → occurs v t ≡ false → In xs t → In xs (apply s y) → In (without v xs) (apply (extended s v t) y)
in_bound xs v t s y h out it iy = record { at = λ w o. go w (occurs-replaced w v t (apply s y) (ap (occurs w) (sym (apply-extended v t s y h)) ∙ o)) }
  where
    apart : (w : ℕ) → occurs w t ≡ true → (b : Bool) → nat_eq v w ≡ b → b ≡ false
    apart w o false eb = refl
    apart w o true eb = absurd (differ (occurs v t) (ap (λ z. occurs z t) (eqb-true v w eb) ∙ o) out)

    go : (w : ℕ) → (occurs w t ≡ true) ⊎ ((occurs w (apply s y) ≡ true) × (nat_eq v w ≡ false)) → mem w (without v xs) ≡ true
    go w (inl o) = still_in v w xs (apart w o (nat_eq v w) refl) (it.at w o)
    go w (inr k) = still_in v w xs k.1 (iy.at w k.0)

within_bound : (xs : List ℕ) (v : ℕ) (t : Term) (s : Subst) (es : Equations) → bound_to s v ≡ None → occurs v t ≡ false → In xs t → Within xs s es → Within (without v xs) (extended s v t) es
within_bound xs v t s [] h out it wi = tt
within_bound xs v t s (e ∷ es) h out it wi = (in_bound xs v t s e.0 h out it wi.0, in_bound xs v t s e.1 h out it wi.1, within_bound xs v t s es h out it wi.2)

-- a term has a size, and a term in a term a smaller one
pub has_size : (t : Term) → 0 < term_size t
has_size (Var v) = omega arith
has_size (Int n) = omega arith
has_size (Atom a) = omega arith
has_size (Comp c ts) = omega arith

mutual
  size_within : (f : ℕ → Term) (v : ℕ) (t : Term) → occurs v t ≡ true → term_size (f v) ≤ term_size (replaced f t)
  size_within f v (Var w) e = let h : v ≡ w = eqb-true v w e in rw h (omega arith)
  size_within f v (Int n) e = absurd (cc)
  size_within f v (Atom a) e = absurd (cc)
  size_within f v (Comp c ts) e = let h = size_within_all f v ts e in omega (arith, h)

  size_within_all : (f : ℕ → Term) (v : ℕ) (ts : Terms) → occurs_in v ts ≡ true → term_size (f v) ≤ terms_size (all_replaced f ts)
  size_within_all f v NoMore e = absurd (cc)
  size_within_all f v (More t ts) e = either (or_either (occurs v t) (occurs_in v ts) e) (λ o. let h = size_within f v t o in omega (arith, h)) (λ o. let h = size_within_all f v ts o in omega (arith, h))

no_cycle : (f : ℕ → Term) (v : ℕ) (c : List ℕ) (ts : Terms) → occurs_in v ts ≡ true → f v ≡ replaced f (Comp c ts) → ⊥
no_cycle f v c ts o e = let h = size_within_all f v ts o in let k : term_size (f v) ≡ 1 + terms_size (all_replaced f ts) = ap term_size e in omega (arith, h)

pub count-replaced : (f : ℕ → Term) (ts : Terms) → count_of (all_replaced f ts) ≡ count_of ts
count-replaced f NoMore = refl
count-replaced f (More t ts) = ap (λ n. 1 + n) (count-replaced f ts)

-- that solving fails although there is a solution, with fewer variables than k, can't be
abbrev FullTo : ℕ → Next → Type 0
FullTo k next = (xs : List ℕ) (f : ℕ → Term) (es : Equations) (s : Subst) → next es s ≡ None → Idem s → Over f s → Equal f es → Within xs s es → length xs < k → ⊥

-- the same where no variable is replaced, for equations of at most this size
abbrev FullIn : ℕ → ℕ → Next → Type 0
FullIn k z next = (xs : List ℕ) (f : ℕ → Term) (es : Equations) (s : Subst) → next es s ≡ None → Idem s → Over f s → Equal f es → Within xs s es → length xs ≤ k → size_under s es ≤ z → ⊥

refuted : (b : Bool) (x : Option Subst) → cond b x None ≡ None → b ≡ true → (x ≡ None → ⊥) → ⊥
refuted true x e t f = f e
refuted false x e t f = differ false t refl

bind_full : (k : ℕ) (next : Next) → FullTo k next → (xs : List ℕ) (f : ℕ → Term) (v : ℕ) (t : Term) (es : Equations) (s : Subst) → next es (extended s v t) ≡ None → occurs v t ≡ false → bound_to s v ≡ None → Free s t → Idem s → Over f s → f v ≡ replaced f t → Equal f es
    → In xs (Var v) → In xs t → Within xs s es → length xs ≤ k → ⊥
bind_full k next full xs f v t es s e out h fr id o ev eqs iv it wi le =
    full (without v xs) f es (extended s v t) e (idem_extended v t s h out fr id) (over_extended f v t s h ev o) eqs (within_bound xs v t s es h out it wi)
    (let lt = shorter v xs (iv.at v (eq-eqb v v refl)) in omega (arith, lt))

bind_comp : (k : ℕ) (next : Next) → FullTo k next → (xs : List ℕ) (f : ℕ → Term) (v : ℕ) (c : List ℕ) (ts : Terms) (es : Equations) (s : Subst) → bind next v (Comp c ts) es s ≡ None → bound_to s v ≡ None → Free s (Comp c ts) → Idem s → Over f s → f v ≡ replaced f (Comp c ts) → Equal f es
    → In xs (Var v) → In xs (Comp c ts) → Within xs s es → length xs ≤ k → ⊥
bind_comp k next full xs f v c ts es s e h fr id o ev eqs iv it wi le = go (occurs_in v ts) refl e
  where
    go : (b : Bool) → occurs_in v ts ≡ b → cond b None (next es (extended s v (Comp c ts))) ≡ None → ⊥
    go true eb e' = no_cycle f v c ts eb ev
    go false eb e' = bind_full k next full xs f v (Comp c ts) es s e' eb h fr id o ev eqs iv it wi le

pub left : (a b : Bool) → a ≡ true → (a || b) ≡ true
left a b e = ap (λ c. c || b) e

pub right : (a b : Bool) → b ≡ true → (a || b) ≡ true
right a b e = ap (λ c. a || c) e ∙ or_true a

both_true : (a b : Bool) → a ≡ true → b ≡ true → (a && b) ≡ true
both_true a b e e' = rw (e, e') refl

-- applied once is applied twice
pub twice : (s : Subst) (t : Term) → Idem s → apply s (apply s t) ≡ apply s t
twice s t id = replaced-itself (value_at s) (apply s t) (λ w o. unbound w s (free_applied s t w id o))

-- the sizes and variables of pairs of arguments
pairs_size : (s : Subst) (ts us : Terms) (es : Equations) → count_of ts ≡ count_of us → all_replaced (value_at s) ts ≡ ts → size_under s (pairs_of ts us ++ es) ≡ terms_size ts + size_under s es
pairs_size s NoMore NoMore es n e = omega arith
pairs_size s (More t ts) (More u us) es n e =
    let e0 : apply s t ≡ t = cc in
    let e1 : all_replaced (value_at s) ts ≡ ts = cc in
    let ih = pairs_size s ts us es (omega arith) e1 in
    rw (e0, ih) (omega arith)
pairs_size s NoMore (More u us) es n e = absurd (omega arith)
pairs_size s (More t ts) NoMore es n e = absurd (omega arith)

pairs_within : (xs : List ℕ) (s : Subst) (ts us : Terms) (es : Equations) → all_replaced (value_at s) ts ≡ ts → all_replaced (value_at s) us ≡ us → AllIn xs ts → AllIn xs us → Within xs s es → Within xs s (pairs_of ts us ++ es)
pairs_within xs s (More t ts) (More u us) es et eu it iu wi =
    let t0 : apply s t ≡ t = cc in
    let u0 : apply s u ≡ u = cc in
    let t1 : all_replaced (value_at s) ts ≡ ts = cc in
    let u1 : all_replaced (value_at s) us ≡ us = cc in (
      record { at = λ w o. it.at w (left (occurs w t) (occurs_in w ts) (ap (occurs w) (sym t0) ∙ o)) },
      record { at = λ w o. iu.at w (left (occurs w u) (occurs_in w us) (ap (occurs w) (sym u0) ∙ o)) },
      pairs_within xs s ts us es t1 u1 (record { at = λ w o. it.at w (right (occurs w t) (occurs_in w ts) o) }) (record { at = λ w o. iu.at w (right (occurs w u) (occurs_in w us) o) }) wi,
    )
pairs_within xs s NoMore us es et eu it iu wi = wi
pairs_within xs s (More t ts) NoMore es et eu it iu wi = wi

pair_full : (k z : ℕ) (same next : Next) → FullIn k z same → FullTo k next → (xs : List ℕ) (f : ℕ → Term) (x y : Term) (es : Equations) (s : Subst) → solve_pair same next x y es s ≡ None → Free s x → Free s y → apply s x ≡ x → apply s y ≡ y → Idem s → Over f s
    → replaced f x ≡ replaced f y → Equal f es → In xs x → In xs y → Within xs s es → length xs ≤ k → term_size x + size_under s es ≤ suc z → ⊥
pair_full k z same next fs fn xs f (Var v) (Var w) es s e fx fy ax ay id o ev eqs ix iy wi le sz = two (nat_eq v w) (nat_lt v w) refl e
  where
    two : (b c : Bool) → nat_eq v w ≡ b → cond b (same es s) (cond c (next es (extended s w (Var v))) (next es (extended s v (Var w)))) ≡ None → ⊥
    two true c eb e' = fs xs f es s e' id o eqs wi le (omega arith)
    two false true eb e' = bind_full k next fn xs f w (Var v) es s e' (flip_eq v w eb) (one_free s w fy) fx id o (sym ev) eqs iy ix wi le
    two false false eb e' = bind_full k next fn xs f v (Var w) es s e' eb (one_free s v fx) fy id o ev eqs ix iy wi le
pair_full k z same next fs fn xs f (Var v) (Int n) es s e fx fy ax ay id o ev eqs ix iy wi le sz = bind_full k next fn xs f v (Int n) es s e refl (one_free s v fx) fy id o ev eqs ix iy wi le
pair_full k z same next fs fn xs f (Var v) (Atom a) es s e fx fy ax ay id o ev eqs ix iy wi le sz = bind_full k next fn xs f v (Atom a) es s e refl (one_free s v fx) fy id o ev eqs ix iy wi le
pair_full k z same next fs fn xs f (Var v) (Comp c ts) es s e fx fy ax ay id o ev eqs ix iy wi le sz = bind_comp k next fn xs f v c ts es s e (one_free s v fx) fy id o ev eqs ix iy wi le
pair_full k z same next fs fn xs f (Int n) (Var w) es s e fx fy ax ay id o ev eqs ix iy wi le sz = bind_full k next fn xs f w (Int n) es s e refl (one_free s w fy) fx id o (sym ev) eqs iy ix wi le
pair_full k z same next fs fn xs f (Atom a) (Var w) es s e fx fy ax ay id o ev eqs ix iy wi le sz = bind_full k next fn xs f w (Atom a) es s e refl (one_free s w fy) fx id o (sym ev) eqs iy ix wi le
pair_full k z same next fs fn xs f (Comp c ts) (Var w) es s e fx fy ax ay id o ev eqs ix iy wi le sz = bind_comp k next fn xs f w c ts es s e (one_free s w fy) fx id o (sym ev) eqs iy ix wi le
pair_full k z same next fs fn xs f (Int m) (Int n) es s e fx fy ax ay id o ev eqs ix iy wi le sz =
    refuted (term_eq (Int m) (Int n)) _ e (let h : m ≡ n = cc in (Decides-int_eq m n).1 h) (λ e'. fs xs f es s e' id o eqs wi le (omega arith))
pair_full k z same next fs fn xs f (Atom a) (Atom b) es s e fx fy ax ay id o ev eqs ix iy wi le sz =
    refuted (names_eq a b) _ e (let h : a ≡ b = cc in (bytes_eq-Decides a b).1 h) (λ e'. fs xs f es s e' id o eqs wi le (omega arith))
pair_full k z same next fs fn xs f (Comp c ts) (Comp d us) es s e fx fy ax ay id o ev eqs ix iy wi le sz =
    let ec : c ≡ d = cc in
    let et : all_replaced f ts ≡ all_replaced f us = cc in
    let n : count_of ts ≡ count_of us = sym (count-replaced f ts) ∙ ap count_of et ∙ count-replaced f us in
    let at : all_replaced (value_at s) ts ≡ ts = cc in
    let au : all_replaced (value_at s) us ≡ us = cc in
    refuted (names_eq c d && nat_eq (count_of ts) (count_of us)) _ e (both_true _ _ ((bytes_eq-Decides c d).1 ec) (eq-eqb _ _ n))
    (λ e'. fs xs f (pairs_of ts us ++ es) s e' id o (pairs_join f ts us es n et eqs)
    (pairs_within xs s ts us es at au (record { at = λ w q. ix.at w q }) (record { at = λ w q. iy.at w q }) wi) le
    (let p = pairs_size s ts us es n at in omega (arith, p)))
pair_full k z same next fs fn xs f (Int m) (Atom b) es s e fx fy ax ay id o ev eqs ix iy wi le sz = cc
pair_full k z same next fs fn xs f (Int m) (Comp c ts) es s e fx fy ax ay id o ev eqs ix iy wi le sz = cc
pair_full k z same next fs fn xs f (Atom b) (Int m) es s e fx fy ax ay id o ev eqs ix iy wi le sz = cc
pair_full k z same next fs fn xs f (Atom b) (Comp c ts) es s e fx fy ax ay id o ev eqs ix iy wi le sz = cc
pair_full k z same next fs fn xs f (Comp c ts) (Int m) es s e fx fy ax ay id o ev eqs ix iy wi le sz = cc
pair_full k z same next fs fn xs f (Comp c ts) (Atom b) es s e fx fy ax ay id o ev eqs ix iy wi le sz = cc

walk_full : (k : ℕ) (next : Next) → FullTo k next → (z : ℕ) → FullIn k z (walk next z)
walk_full k next fn zero xs f [] s e id o eqs wi le sz = cc
walk_full k next fn (suc z) xs f [] s e id o eqs wi le sz = cc
walk_full k next fn zero xs f (x ∷ es) s e id o eqs wi le sz = let h = has_size (apply s x.0) in omega (arith, h)
walk_full k next fn (suc z) xs f (x ∷ es) s e id o eqs wi le sz =
    pair_full k z (walk next z) next (walk_full k next fn z) fn xs f (apply s x.0) (apply s x.1) es s e
    (record { free = λ w. free_applied s x.0 w id }) (record { free = λ w. free_applied s x.1 w id })
    (twice s x.0 id) (twice s x.1 id) id o (sym (over_term f s x.0 o) ∙ eqs.0 ∙ over_term f s x.1 o) eqs.1 wi.0 wi.1 wi.2 le sz

rounds_full : (n : ℕ) → FullTo (suc n) (rounds n)
rounds_full zero xs f es s e id o eqs wi lt = walk_full 0 (λ es' s'. None) (λ ys g es' s' e' id' o' eqs' wi' lt'. omega arith) (size_under s es) xs f es s e id o eqs wi (omega arith) (omega arith)
rounds_full (suc n) xs f es s e id o eqs wi lt = walk_full (suc n) (rounds n) (rounds_full n) (size_under s es) xs f es s e id o eqs wi (omega arith) (omega arith)

abbrev mutual
  vars_of : Term → List ℕ
  vars_of (Var v) = v ∷ []
  vars_of (Int n) = []
  vars_of (Atom a) = []
  vars_of (Comp c ts) = vars_of_all ts

  vars_of_all : Terms → List ℕ
  vars_of_all NoMore = []
  vars_of_all (More t ts) = vars_of t ++ vars_of_all ts

mutual
  few_vars : (t : Term) → length (vars_of t) ≤ term_size t
  few_vars (Var v) = omega arith
  few_vars (Int n) = omega arith
  few_vars (Atom a) = omega arith
  few_vars (Comp c ts) = let h = few_vars_all ts in omega (arith, h)

  few_vars_all : (ts : Terms) → length (vars_of_all ts) ≤ terms_size ts
  few_vars_all NoMore = omega arith
  few_vars_all (More t ts) = let h = few_vars t in let k = few_vars_all ts in omega (arith, h, k, length-append (vars_of t) (vars_of_all ts))

mem-append : (w : ℕ) (xs ys : List ℕ) → mem w (xs ++ ys) ≡ (mem w xs || mem w ys)
mem-append w [] ys = refl
mem-append w (x ∷ xs) ys = go (mem-append w xs ys) (nat_eq w x)
  where
    go : mem w (xs ++ ys) ≡ (mem w xs || mem w ys) → (b : Bool) → (b || mem w (xs ++ ys)) ≡ ((b || mem w xs) || mem w ys)
    go ih true = refl
    go ih false = ih

mutual
  in_vars : (w : ℕ) (t : Term) → occurs w t ≡ true → mem w (vars_of t) ≡ true
  in_vars w (Var v) e = rw e refl
  in_vars w (Int n) e = absurd (cc)
  in_vars w (Atom a) e = absurd (cc)
  in_vars w (Comp c ts) e = in_vars_all w ts e

  in_vars_all : (w : ℕ) (ts : Terms) → occurs_in w ts ≡ true → mem w (vars_of_all ts) ≡ true
  in_vars_all w NoMore e = absurd (cc)
  in_vars_all w (More t ts) e = mem-append w (vars_of t) (vars_of_all ts)
      ∙ either (or_either (occurs w t) (occurs_in w ts) e) (λ o. left _ _ (in_vars w t o)) (λ o. right (mem w (vars_of t)) _ (in_vars_all w ts o))

-- where there is a solution, there is a unifier
pub mgu_full : (s : Subst) (a b : Term) (f : ℕ → Term) → mgu s a b ≡ None → Idem s → Over f s → replaced f a ≡ replaced f b → ⊥
unfolding mgu
mgu_full s a b f e id o h =
    rounds_full (term_size (apply s a) + term_size (apply s b)) (vars_of (apply s a) ++ vars_of (apply s b)) f ((a, b) ∷ []) s e id o (h, tt) (
      record { at = λ w q. mem-append w (vars_of (apply s a)) (vars_of (apply s b)) ∙ left _ _ (in_vars w (apply s a) q) },
      record { at = λ w q. mem-append w (vars_of (apply s a)) (vars_of (apply s b)) ∙ right (mem w (vars_of (apply s a))) _ (in_vars w (apply s b) q) },
      tt,
    )
    (let x = few_vars (apply s a) in let y = few_vars (apply s b) in omega (arith, x, y, length-append (vars_of (apply s a)) (vars_of (apply s b))))
