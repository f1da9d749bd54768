-- What the solving of equations gives.
use Rattle.std.proofs.Common.{◌≡◌, ℕ, zero, suc, ◌+◌, Bool, true, false, nat_eq, nat_lt, ◌&&◌, ◌||◌, cond, List, [], ◌∷◌, ◌++◌, map, Option, Some, None, refl, ap, sym, subst, ◌∙◌, ◌<◌, ◌≤◌, ◌≢◌, arith, ◌⊎◌, inl, inr}
use Rattle.std.specs.List.{AllByRecursion}
use Rattle.std.proofs.lemmas.Bool.{eqb-true, eq-eqb, eqb-false, ltb-true, ltb-false}
use Rattle.tp_terms.specs.Term.{Term, Terms, Var, Int, Atom, Comp, NoMore, More, replaced, all_replaced, occurs, occurs_in, term_eq, names_eq, count_of, term_size}
use Rattle.tp_meaning.specs.Subst.{Idem, IsSubst, IsSorted, Subst, Equations, Next, mgu, value_at, apply, extended, put, for_one, bound_to, bind, solve_pair, walk, rounds, size_under, pairs_of}
use Rattle.tp_meaning.proofs.Unification.Replaced.{replaced-replaced, replaced-same, or_true, and_both, term_eq-true}
use Rattle.std.proofs.lemmas.Slice.Eq.{bytes_eq-Decides}

-- f is a solution of the equations es
abbrev pub Equal : (ℕ → Term) → Equations → Type 0
Equal f [] = Unit {0}
Equal f (e ∷ es) = (replaced f e.0 ≡ replaced f e.1) × Equal f es

-- f is the map s and then f
pub record Over (f : ℕ → Term) (s : Subst) : Type 0 where
  pub at : (v : ℕ) → f v ≡ replaced f (value_at s v)

pub over_term : (f : ℕ → Term) (s : Subst) (t : Term) → Over f s → replaced f t ≡ replaced f (apply s t)
over_term f s t h = replaced-same f (λ v. replaced f (value_at s v)) t (λ v _. h.at v) ∙ sym (replaced-replaced f (value_at s) t)

pub differ : (b : Bool) → b ≡ true → b ≡ false → ⊥
differ b e e' = let h : true ≡ false = sym e ∙ e' in absurd (cc)

-- the value of each variable after one more entry
value-put : (v x : ℕ) (t : Term) (s : Subst) → bound_to s v ≡ None → value_at (put v t s) x ≡ cond (nat_eq v x) t (value_at s x)
value-put v x t [] h = refl
value-put v x t (e ∷ es) h = go (value-put v x t es) (nat_lt v e.0) (nat_eq e.0 v) refl h
  where
    go : (bound_to es v ≡ None → value_at (put v t es) x ≡ cond (nat_eq v x) t (value_at es x)) → (b c : Bool) → nat_eq e.0 v ≡ c → cond c (Some e.1) (bound_to es v) ≡ None → value_at (cond b ((v, t) ∷ e ∷ es) (e ∷ put v t es)) x ≡ cond (nat_eq v x) t (cond (nat_eq e.0 x) e.1 (value_at es x))
    go ih b true ec h' = absurd (cc)
    go ih true false ec h' = refl
    go ih false false ec h' = inner (nat_eq e.0 x) (nat_eq v x) refl refl
      where
        inner : (p q : Bool) → nat_eq e.0 x ≡ p → nat_eq v x ≡ q → cond p e.1 (value_at (put v t es) x) ≡ cond q t (cond p e.1 (value_at es x))
        inner true true ep eq = absurd (differ (nat_eq e.0 v) (let a : e.0 ≡ x = eqb-true e.0 x ep in let b : v ≡ x = eqb-true v x eq in rw (a, ← b) (eq-eqb v v refl)) ec)
        inner true false ep eq = refl
        inner false q ep eq = ih h' ∙ ap (λ c. cond c t (value_at es x)) eq

pub unbound : (v : ℕ) (s : Subst) → bound_to s v ≡ None → value_at s v ≡ Var v
unbound v [] h = refl
unbound v (e ∷ es) h = go (unbound v es) (nat_eq e.0 v) h
  where
    go : (bound_to es v ≡ None → value_at es v ≡ Var v) → (b : Bool) → cond b (Some e.1) (bound_to es v) ≡ None → cond b e.1 (value_at es v) ≡ Var v
    go ih true h' = absurd (cc)
    go ih false h' = ih h'

-- the same for a map whose terms were changed
pub mapped-none : (f : Term → Term) (v : ℕ) (s : Subst) → bound_to s v ≡ None → bound_to (map (λ e. (e.0, f e.1)) s) v ≡ None
mapped-none f v [] h = refl
mapped-none f v (e ∷ es) h = go (mapped-none f v es) (nat_eq e.0 v) h
  where
    go : (bound_to es v ≡ None → bound_to (map (λ e'. (e'.0, f e'.1)) es) v ≡ None) → (b : Bool) → cond b (Some e.1) (bound_to es v) ≡ None → cond b (Some (f e.1)) (bound_to (map (λ e'. (e'.0, f e'.1)) es) v) ≡ None
    go ih true h' = absurd (cc)
    go ih false h' = ih h'

value-map : (v x : ℕ) (t : Term) (s : Subst) → nat_eq v x ≡ false → value_at (map (λ e. (e.0, replaced (for_one v t) e.1)) s) x ≡ replaced (for_one v t) (value_at s x)
value-map v x t [] h = ap (λ b. cond b t (Var x)) (sym h)
value-map v x t (e ∷ es) h = go (value-map v x t es h) (nat_eq e.0 x)
  where
    go : value_at (map (λ e'. (e'.0, replaced (for_one v t) e'.1)) es) x ≡ replaced (for_one v t) (value_at es x) → (b : Bool) → cond b (replaced (for_one v t) e.1) (value_at (map (λ e'. (e'.0, replaced (for_one v t) e'.1)) es) x) ≡ replaced (for_one v t) (cond b e.1 (value_at es x))
    go ih true = refl
    go ih false = ih

-- the map with a variable replaced
pub value-extended : (v x : ℕ) (t : Term) (s : Subst) → bound_to s v ≡ None → value_at (extended s v t) x ≡ replaced (for_one v t) (value_at s x)
value-extended v x t s h = value-put v x t (map (λ e. (e.0, replaced (for_one v t) e.1)) s) (mapped-none (replaced (for_one v t)) v s h) ∙ go (nat_eq v x) refl
  where
    go : (b : Bool) → nat_eq v x ≡ b → cond b t (value_at (map (λ e. (e.0, replaced (for_one v t) e.1)) s) x) ≡ replaced (for_one v t) (value_at s x)
    go true e = let ex : v ≡ x = eqb-true v x e in rw (← ex, unbound v s h) (ap (λ b. cond b t (Var v)) (sym (eq-eqb v v refl)))
    go false e = value-map v x t s e

-- a solution of v and t sees no difference
for_one-same : (f : ℕ → Term) (v : ℕ) (t y : Term) → f v ≡ replaced f t → replaced f (replaced (for_one v t) y) ≡ replaced f y
for_one-same f v t y h = replaced-replaced f (for_one v t) y ∙ replaced-same (λ w. replaced f (for_one v t w)) f y (λ w _. at w)
  where
    at : (w : ℕ) → replaced f (for_one v t w) ≡ f w
    at w = go (nat_eq v w) refl
      where
        go : (b : Bool) → nat_eq v w ≡ b → replaced f (cond b t (Var w)) ≡ f w
        go true e = sym h ∙ ap f (eqb-true v w e)
        go false e = refl

pub over_extended : (f : ℕ → Term) (v : ℕ) (t : Term) (s : Subst) → bound_to s v ≡ None → f v ≡ replaced f t → Over f s → Over f (extended s v t)
over_extended f v t s h e o = record { at = λ x. o.at x ∙ sym (for_one-same f v t (value_at s x) e) ∙ ap (replaced f) (sym (value-extended v x t s h)) }

-- where a variable of a replaced term comes from
abbrev pub From : ℕ → ℕ → Term → Bool → Type 0
From w v t b = (occurs w t ≡ true) ⊎ ((b ≡ true) × (nat_eq v w ≡ false))

pub or_either : (a b : Bool) → (a || b) ≡ true → (a ≡ true) ⊎ (b ≡ true)
or_either true b e = inl refl
or_either false b e = inr e

from_more : (w v : ℕ) (t : Term) (a b : Bool) → From w v t a ⊎ From w v t b → From w v t (a || b)
from_more w v t a b (inl (inl h)) = inl h
from_more w v t a b (inl (inr h)) = inr (rw h.0 refl, h.1)
from_more w v t a b (inr (inl h)) = inl h
from_more w v t a b (inr (inr h)) = inr (rw h.0 (or_true a), h.1)

pick : {A B C D : Type 0} → A ⊎ B → (A → C) → (B → D) → C ⊎ D
pick (inl a) f g = inl (f a)
pick (inr b) f g = inr (g b)

mutual
  pub occurs-replaced : (w v : ℕ) (t y : Term) → occurs w (replaced (for_one v t) y) ≡ true → From w v t (occurs w y)
  occurs-replaced w v t (Var x) e = go (nat_eq v x) refl e
    where
      go : (b : Bool) → nat_eq v x ≡ b → occurs w (cond b t (Var x)) ≡ true → From w v t (nat_eq w x)
      go true eb h = inl h
      go false eb h = inr (h, other (nat_eq v w) refl)
        where
          other : (c : Bool) → nat_eq v w ≡ c → c ≡ false
          other false ec = refl
          other true ec = absurd (differ (nat_eq v x) (let a : v ≡ w = eqb-true v w ec in let b : w ≡ x = eqb-true w x h in rw (a, b) (eq-eqb x x refl)) eb)
  occurs-replaced w v t (Int n) e = absurd (cc)
  occurs-replaced w v t (Atom a) e = absurd (cc)
  occurs-replaced w v t (Comp g ts) e = occurs_in-all_replaced w v t ts e

  pub occurs_in-all_replaced : (w v : ℕ) (t : Term) (ts : Terms) → occurs_in w (all_replaced (for_one v t) ts) ≡ true → From w v t (occurs_in w ts)
  occurs_in-all_replaced w v t NoMore e = absurd (cc)
  occurs_in-all_replaced w v t (More y ys) e =
      from_more w v t (occurs w y) (occurs_in w ys) (pick (or_either (occurs w (replaced (for_one v t) y)) _ e) (occurs-replaced w v t y) (occurs_in-all_replaced w v t ys))

-- no new entry for another variable
pub put-none : (v w : ℕ) (t : Term) (s : Subst) → nat_eq v w ≡ false → bound_to s w ≡ None → bound_to (put v t s) w ≡ None
put-none v w t [] n h = ap (λ b. cond b (Some t) None) n
put-none v w t (e ∷ es) n h = go (put-none v w t es n) (nat_lt v e.0) (nat_eq e.0 w) refl h
  where
    go : (bound_to es w ≡ None → bound_to (put v t es) w ≡ None) → (b c : Bool) → nat_eq e.0 w ≡ c → cond c (Some e.1) (bound_to es w) ≡ None → bound_to (cond b ((v, t) ∷ e ∷ es) (e ∷ put v t es)) w ≡ None
    go ih b true ec h' = absurd (cc)
    go ih true false ec h' = ap (λ d. cond d (Some t) (cond (nat_eq e.0 w) (Some e.1) (bound_to es w))) n ∙ ap (λ d. cond d (Some e.1) (bound_to es w)) ec ∙ h'
    go ih false false ec h' = ap (λ d. cond d (Some e.1) (bound_to (put v t es) w)) ec ∙ ih h'

-- the variables of a term are not bound
pub record Free (s : Subst) (t : Term) : Type 0 where
  pub free : (w : ℕ) → occurs w t ≡ true → bound_to s w ≡ None

pub idem_extended : (v : ℕ) (t : Term) (s : Subst) → bound_to s v ≡ None → occurs v t ≡ false → Free s t → Idem s → Idem (extended s v t)
idem_extended v t s h out fr id = record { free = λ x w o. go w (occurs-replaced w v t (value_at s x) (ap (occurs w) (sym (value-extended v x t s h)) ∙ o)) (id.free x w) }
  where
    still : (w : ℕ) → nat_eq v w ≡ false → bound_to s w ≡ None → bound_to (extended s v t) w ≡ None
    still w n u = put-none v w t (map (λ e. (e.0, replaced (for_one v t) e.1)) s) n (mapped-none (replaced (for_one v t)) w s u)

    apart : (w : ℕ) → occurs w t ≡ true → (b : Bool) → nat_eq v w ≡ b → b ≡ false
    apart w o false eb = refl
    apart w o true eb = absurd (differ (occurs v t) (ap (λ z. occurs z t) (eqb-true v w eb) ∙ o) out)

    go : (w : ℕ) {b : Bool} → From w v t b → (b ≡ true → bound_to s w ≡ None) → bound_to (extended s v t) w ≡ None
    go w (inl o) f = still w (apart w o (nat_eq v w) refl) (fr.free w o)
    go w (inr k) f = still w k.1 (f k.0)

-- a new entry keeps the order
below-put : (n v : ℕ) (t : Term) (s : Subst) → n < v → AllByRecursion (λ f. n < f.0) s → AllByRecursion (λ f. n < f.0) (put v t s)
below-put n v t [] l a = (l, tt)
below-put n v t (e ∷ es) l a = go (nat_lt v e.0) (below-put n v t es l a.1)
  where
    go : (b : Bool) → AllByRecursion (λ f. n < f.0) (put v t es) → AllByRecursion (λ f. n < f.0) (cond b ((v, t) ∷ e ∷ es) (e ∷ put v t es))
    go true r = (l, a)
    go false r = (a.0, r)

below-less : (m n : ℕ) (s : Subst) → m < n → AllByRecursion (λ f. n < f.0) s → AllByRecursion (λ f. m < f.0) s
below-less m n [] l a = tt
below-less m n (e ∷ es) l a = ((let h : n < e.0 = a.0 in omega arith), below-less m n es l a.1)

sorted-put : (v : ℕ) (t : Term) (s : Subst) → bound_to s v ≡ None → IsSorted s → IsSorted (put v t s)
sorted-put v t [] h o = (tt, tt)
sorted-put v t (e ∷ es) h o = go (λ h'. sorted-put v t es h' o.1) (nat_lt v e.0) (nat_eq e.0 v) refl refl h
  where
    go : (bound_to es v ≡ None → IsSorted (put v t es)) → (b c : Bool) → nat_lt v e.0 ≡ b → nat_eq e.0 v ≡ c → cond c (Some e.1) (bound_to es v) ≡ None → IsSorted (cond b ((v, t) ∷ e ∷ es) (e ∷ put v t es))
    go ih b true eb ec h' = absurd (cc)
    go ih true false eb ec h' = let l : v < e.0 = ltb-true v e.0 eb in ((l, below-less v e.0 es l o.0), o)
    go ih false false eb ec h' =
        let le : e.0 ≤ v = ltb-false v e.0 eb in
        let ne : e.0 ≢ v = eqb-false e.0 v ec in
        let l : e.0 < v = omega (arith, ne) in
        (below-put e.0 v t es l o.0, ih h')

below-map : (n : ℕ) (f : Term → Term) (s : Subst) → AllByRecursion (λ (e : ℕ × Term). n < e.0) s → AllByRecursion (λ (e : ℕ × Term). n < e.0) (map (λ e. (e.0, f e.1)) s)
below-map n f [] a = tt
below-map n f (e ∷ es) a = (a.0, below-map n f es a.1)

sorted-map : (f : Term → Term) (s : Subst) → IsSorted s → IsSorted (map (λ e. (e.0, f e.1)) s)
sorted-map f [] o = tt
sorted-map f (e ∷ es) o = (below-map e.0 f es o.0, sorted-map f es o.1)

pub subst_extended : (v : ℕ) (t : Term) (s : Subst) → bound_to s v ≡ None → occurs v t ≡ false → Free s t → IsSubst s → IsSubst (extended s v t)
subst_extended v t s h out fr id = record {
  sorted = sorted-put v t (map (λ e. (e.0, replaced (for_one v t) e.1)) s) (mapped-none (replaced (for_one v t)) v s h) (sorted-map (replaced (for_one v t)) s id.sorted);
  idem = idem_extended v t s h out fr id.idem;
}

-- what a solved list of equations has
pub record Solved (s : Subst) (es : Equations) (u : Subst) : Type 0 where
  pub is_subst : IsSubst u
  pub over : Over (value_at u) s
  pub equal : Equal (value_at u) es
  -- every other solution is this one and then itself
  pub general : (f : ℕ → Term) → Over f s → Equal f es → Over f u

abbrev pub Good : Next → Type 0
Good next = (es : Equations) (s u : Subst) → next es s ≡ Some u → IsSubst s → Solved s es u

-- one equation between x and y, and then es
pub record SolvedPair (s : Subst) (x y : Term) (es : Equations) (u : Subst) : Type 0 where
  pub is_subst : IsSubst u
  pub over : Over (value_at u) s
  pub same : replaced (value_at u) x ≡ replaced (value_at u) y
  pub equal : Equal (value_at u) es
  pub general : (f : ℕ → Term) → Over f s → replaced f x ≡ replaced f y → Equal f es → Over f u

flipped : {s : Subst} {x y : Term} {es : Equations} {u : Subst} → SolvedPair s x y es u → SolvedPair s y x es u
flipped p = record { is_subst = p.is_subst; over = p.over; same = sym p.same; equal = p.equal; general = λ f o e es. p.general f o (sym e) es }

bind_pair : (next : Next) → Good next → (v : ℕ) (t : Term) (es : Equations) (s u : Subst) → next es (extended s v t) ≡ Some u → occurs v t ≡ false → bound_to s v ≡ None → Free s t → IsSubst s → SolvedPair s (Var v) t es u
bind_pair next good v t es s u e out h fr id =
    let g = good es (extended s v t) u e (subst_extended v t s h out fr id) in
    let at : value_at u v ≡ replaced (value_at u) t = g.over.at v ∙ ap (replaced (value_at u)) (value-extended v v t s h ∙ ap (replaced (for_one v t)) (unbound v s h) ∙ ap (λ b. cond b t (Var v)) (eq-eqb v v refl)) in
    record {
      is_subst = g.is_subst;
      over = record { at = λ x. g.over.at x ∙ ap (replaced (value_at u)) (value-extended v x t s h) ∙ for_one-same (value_at u) v t (value_at s x) at };
      same = at;
      equal = g.equal;
      general = λ f o ev eqs. g.general f (over_extended f v t s h ev o) eqs;
    }

bind_cases : (next : Next) → Good next → (v : ℕ) (t : Term) (es : Equations) (s u : Subst) → bind next v t es s ≡ Some u → bound_to s v ≡ None → Free s t → IsSubst s → SolvedPair s (Var v) t es u
bind_cases next good v t es s u e h fr id = go (occurs v t) refl e
  where
    go : (b : Bool) → occurs v t ≡ b → cond b None (next es (extended s v t)) ≡ Some u → SolvedPair s (Var v) t es u
    go true eb e' = absurd (cc)
    go false eb e' = bind_pair next good v t es s u e' eb h fr id

-- equal sides are dropped
same_pair : (same : Next) → Good same → (x y : Term) (es : Equations) (s u : Subst) → x ≡ y → same es s ≡ Some u → IsSubst s → SolvedPair s x y es u
same_pair same good x y es s u exy e id =
    let g = good es s u e id in
    record { is_subst = g.is_subst; over = g.over; same = ap (replaced (value_at u)) exy; equal = g.equal; general = λ f o _ eqs. g.general f o eqs }

-- pairs of arguments
pairs_split : (f : ℕ → Term) (ts us : Terms) (es : Equations) → count_of ts ≡ count_of us → Equal f (pairs_of ts us ++ es) → (all_replaced f ts ≡ all_replaced f us) × Equal f es
pairs_split f NoMore NoMore es n h = (refl, h)
pairs_split f (More t ts) (More u us) es n h =
    let r = pairs_split f ts us es (omega arith) h.1 in
    (ap (λ x. More x (all_replaced f ts)) h.0 ∙ ap (More (replaced f u)) r.0, r.1)
pairs_split f NoMore (More u us) es n h = absurd (omega arith)
pairs_split f (More t ts) NoMore es n h = absurd (omega arith)

pub pairs_join : (f : ℕ → Term) (ts us : Terms) (es : Equations) → count_of ts ≡ count_of us → all_replaced f ts ≡ all_replaced f us → Equal f es → Equal f (pairs_of ts us ++ es)
pairs_join f NoMore NoMore es n e h = h
pairs_join f (More t ts) (More u us) es n e h =
    let e0 : replaced f t ≡ replaced f u = cc in
    let e1 : all_replaced f ts ≡ all_replaced f us = cc in
    (e0, pairs_join f ts us es (omega arith) e1 h)
pairs_join f NoMore (More u us) es n e h = absurd (omega arith)
pairs_join f (More t ts) NoMore es n e h = absurd (omega arith)

comp_pair : (same : Next) → Good same → (c d : List ℕ) (ts us : Terms) (es : Equations) (s u : Subst) → c ≡ d → count_of ts ≡ count_of us → same (pairs_of ts us ++ es) s ≡ Some u → IsSubst s → SolvedPair s (Comp c ts) (Comp d us) es u
comp_pair same good c d ts us es s u ec n e id =
    let g = good (pairs_of ts us ++ es) s u e id in
    let r = pairs_split (value_at u) ts us es n g.equal in
    record {
      is_subst = g.is_subst;
      over = g.over;
      same = ap (Comp c) r.0 ∙ ap (λ z. Comp z (all_replaced (value_at u) us)) ec;
      equal = r.1;
      general = λ f o ef eqs. g.general f o (pairs_join f ts us es n (let h : all_replaced f ts ≡ all_replaced f us = cc in h) eqs);
    }

pub one_free : (s : Subst) (v : ℕ) → Free s (Var v) → bound_to s v ≡ None
one_free s v fr = fr.free v (eq-eqb v v refl)

pub tested : (b : Bool) (P : Type 0) (x : Option Subst) (u : Subst) → cond b x None ≡ Some u → (b ≡ true → x ≡ Some u → P) → P
tested true P x u e f = f refl e
tested false P x u e f = absurd (cc)

pub flip_eq : (v w : ℕ) → nat_eq v w ≡ false → nat_eq w v ≡ false
flip_eq v w e = go (nat_eq w v) refl
  where
    go : (b : Bool) → nat_eq w v ≡ b → b ≡ false
    go false eb = refl
    go true eb = absurd (differ (nat_eq v w) (eq-eqb v w (sym (eqb-true w v eb))) e)

pair_good : (same next : Next) → Good same → Good next → (x y : Term) (es : Equations) (s u : Subst) → solve_pair same next x y es s ≡ Some u → Free s x → Free s y → IsSubst s → SolvedPair s x y es u
pair_good same next gs gn (Var v) (Var w) es s u e fx fy id = two (nat_eq v w) (nat_lt v w) refl e
  where
    two : (b c : Bool) → nat_eq v w ≡ b → cond b (same es s) (cond c (next es (extended s w (Var v))) (next es (extended s v (Var w)))) ≡ Some u → SolvedPair s (Var v) (Var w) es u
    two true c eb e' = same_pair same gs (Var v) (Var w) es s u (ap Var (eqb-true v w eb)) e' id
    two false true eb e' = flipped (bind_pair next gn w (Var v) es s u e' (flip_eq v w eb) (one_free s w fy) fx id)
    two false false eb e' = bind_pair next gn v (Var w) es s u e' eb (one_free s v fx) fy id
pair_good same next gs gn (Var v) (Int n) es s u e fx fy id = bind_cases next gn v (Int n) es s u e (one_free s v fx) fy id
pair_good same next gs gn (Var v) (Atom a) es s u e fx fy id = bind_cases next gn v (Atom a) es s u e (one_free s v fx) fy id
pair_good same next gs gn (Var v) (Comp c ts) es s u e fx fy id = bind_cases next gn v (Comp c ts) es s u e (one_free s v fx) fy id
pair_good same next gs gn (Int n) (Var w) es s u e fx fy id = flipped (bind_cases next gn w (Int n) es s u e (one_free s w fy) fx id)
pair_good same next gs gn (Atom a) (Var w) es s u e fx fy id = flipped (bind_cases next gn w (Atom a) es s u e (one_free s w fy) fx id)
pair_good same next gs gn (Comp c ts) (Var w) es s u e fx fy id = flipped (bind_cases next gn w (Comp c ts) es s u e (one_free s w fy) fx id)
pair_good same next gs gn (Int m) (Int n) es s u e fx fy id = tested (term_eq (Int m) (Int n)) _ _ u e (λ t e'. same_pair same gs (Int m) (Int n) es s u (term_eq-true (Int m) (Int n) t) e' id)
pair_good same next gs gn (Atom a) (Atom b) es s u e fx fy id = tested (names_eq a b) _ _ u e (λ t e'. same_pair same gs (Atom a) (Atom b) es s u (term_eq-true (Atom a) (Atom b) t) e' id)
pair_good same next gs gn (Comp c ts) (Comp d us) es s u e fx fy id =
    tested (names_eq c d && nat_eq (count_of ts) (count_of us)) _ _ u e (λ t e'.
    let h = and_both (names_eq c d) (nat_eq (count_of ts) (count_of us)) t in
    comp_pair same gs c d ts us es s u ((bytes_eq-Decides c d).0 h.0) (eqb-true _ _ h.1) e' id)
pair_good same next gs gn _ _ es s u e fx fy id = absurd (cc)

mutual
  pub replaced-itself : (f : ℕ → Term) (t : Term) → ((w : ℕ) → occurs w t ≡ true → f w ≡ Var w) → replaced f t ≡ t
  replaced-itself f (Var v) h = h v (eq-eqb v v refl)
  replaced-itself f (Int n) h = refl
  replaced-itself f (Atom a) h = refl
  replaced-itself f (Comp c ts) h = ap (Comp c) (all_replaced-itself f ts h)

  pub all_replaced-itself : (f : ℕ → Term) (ts : Terms) → ((w : ℕ) → occurs_in w ts ≡ true → f w ≡ Var w) → all_replaced f ts ≡ ts
  all_replaced-itself f NoMore h = refl
  all_replaced-itself f (More t ts) h =
      ap (λ x. More x (all_replaced f ts)) (replaced-itself f t (λ w e. h w (rw e refl)))
      ∙ ap (More t) (all_replaced-itself f ts (λ w e. h w (rw e (or_true (occurs w t)))))

pub either : {A B C : Type 0} → A ⊎ B → (A → C) → (B → C) → C
either (inl a) f g = f a
either (inr b) f g = g b

mutual
  pub free_applied : (s : Subst) (t : Term) (w : ℕ) → Idem s → occurs w (apply s t) ≡ true → bound_to s w ≡ None
  free_applied s (Var v) w id e = id.free v w e
  free_applied s (Int n) w id e = absurd (cc)
  free_applied s (Atom a) w id e = absurd (cc)
  free_applied s (Comp c ts) w id e = free_all s ts w id e

  pub free_all : (s : Subst) (ts : Terms) (w : ℕ) → Idem s → occurs_in w (all_replaced (value_at s) ts) ≡ true → bound_to s w ≡ None
  free_all s NoMore w id e = absurd (cc)
  free_all s (More t ts) w id e = either (or_either (occurs w (apply s t)) _ e) (free_applied s t w id) (free_all s ts w id)

pub idem_over : (s : Subst) → Idem s → Over (value_at s) s
idem_over s id = record { at = λ v. sym (replaced-itself (value_at s) (value_at s v) (λ w o. unbound w s (id.free v w o))) }

pub walk_good : (next : Next) → Good next → (z : ℕ) → Good (walk next z)
walk_good next gn zero [] s u e id = let es : s ≡ u = cc in subst (Solved s []) es (record { is_subst = id; over = idem_over s id.idem; equal = tt; general = λ f o _. o })
walk_good next gn (suc z) [] s u e id = let es : s ≡ u = cc in subst (Solved s []) es (record { is_subst = id; over = idem_over s id.idem; equal = tt; general = λ f o _. o })
walk_good next gn zero (x ∷ es) s u e id = absurd (cc)
walk_good next gn (suc z) (x ∷ es) s u e id =
    let p = pair_good (walk next z) next (walk_good next gn z) gn (apply s x.0) (apply s x.1) es s u e (record { free = λ w. free_applied s x.0 w id.idem }) (record { free = λ w. free_applied s x.1 w id.idem }) id in
    record {
      is_subst = p.is_subst;
      over = p.over;
      equal = (over_term (value_at u) s x.0 p.over ∙ p.same ∙ sym (over_term (value_at u) s x.1 p.over), p.equal);
      general = λ f o eqs. p.general f o (sym (over_term f s x.0 o) ∙ eqs.0 ∙ over_term f s x.1 o) eqs.1;
    }

none_good : Good (λ es s. None)
none_good es s u e id = absurd (cc)

pub rounds_good : (n : ℕ) → Good (rounds n)
rounds_good zero es s u e id = walk_good (λ es' s'. None) none_good (size_under s es) es s u e id
rounds_good (suc n) es s u e id = walk_good (rounds n) (rounds_good n) (size_under s es) es s u e id

-- the part of the law that says what a unifier is
pub mgu_good : (s : Subst) (a b : Term) (u : Subst) → mgu s a b ≡ Some u → IsSubst s → Solved s ((a, b) ∷ []) u
unfolding mgu
mgu_good s a b u e id = rounds_good (term_size (apply s a) + term_size (apply s b)) ((a, b) ∷ []) s u e id
