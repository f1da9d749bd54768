-- What solving an equation gives is the most general unifier, and there is only one.
use Rattle.std.proofs.Common.{◌≡◌, ℕ, ◌<◌, ◌≤◌, Bool, true, false, nat_eq, nat_lt, cond, [], ◌∷◌, Option, Some, None, is_some, refl, ap, sym, ◌∙◌, arith}
use Rattle.std.specs.List.{AllByRecursion}
use Rattle.std.proofs.lemmas.Bool.{eqb-true, eq-eqb, ne_eqb, ltb-true, ltb-false}
use Rattle.tp_terms.specs.Term.{Term, Var, Int, Atom, Comp, occurs}
use Rattle.tp_meaning.specs.Subst.{Subst, IsSubst, IsSorted, mgu, value_at, apply, bound_to}
use Rattle.tp_meaning.specs.Unifier.{Solves, Mgu, MguIsTheOneUnifier}
use Rattle.tp_meaning.proofs.Unification.Solved.{differ, unbound, replaced-itself, mgu_good}
use Rattle.tp_meaning.proofs.Unification.Complete.{mgu_full}
use Rattle.tp_meaning.proofs.Unification.Made.{mgu-made}

-- ---- maps that are equal

above-none : (n : ℕ) (s : Subst) → AllByRecursion (λ (f : ℕ × Term). n < f.0) s → bound_to s n ≡ None
above-none n [] a = refl
above-none n (e ∷ es) a = ap (λ b. cond b (Some e.1) (bound_to es n)) (ne_eqb e.0 n (λ h. let lt : n < e.0 = a.0 in absurd (omega arith))) ∙ above-none n es a.1

first-bound : (e : ℕ × Term) (es : Subst) → bound_to (e ∷ es) e.0 ≡ Some e.1
first-bound e es = ap (λ b. cond b (Some e.1) (bound_to es e.0)) (eq-eqb e.0 e.0 refl)

later-bound : (e : ℕ × Term) (es : Subst) (v : ℕ) → nat_eq e.0 v ≡ false → bound_to (e ∷ es) v ≡ bound_to es v
later-bound e es v n = ap (λ b. cond b (Some e.1) (bound_to es v)) n

-- two lists in order that bind the same are the same
pub sorted-same : (s t : Subst) → IsSorted s → IsSorted t → ((v : ℕ) → bound_to s v ≡ bound_to t v) → s ≡ t
sorted-same [] [] a b h = refl
sorted-same [] (f ∷ fs) a b h = let e : None ≡ Some f.1 = h f.0 ∙ first-bound f fs in absurd (cc)
sorted-same (e ∷ es) [] a b h = let k : Some e.1 ≡ None = sym (first-bound e es) ∙ h e.0 in absurd (cc)
sorted-same (e ∷ es) (f ∷ fs) a b h =
    go (λ k. sorted-same es fs a.1 b.1 k) (nat_lt e.0 f.0) (nat_lt f.0 e.0) refl refl
  where
    under : (g : ℕ × Term) (n : ℕ) (gs : Subst) → n < g.0 → AllByRecursion (λ (x : ℕ × Term). g.0 < x.0) gs → AllByRecursion (λ (x : ℕ × Term). n < x.0) gs
    under g n [] l r = tt
    under g n (x ∷ xs) l r = ((let lt : g.0 < x.0 = r.0 in omega arith), under g n xs l r.1)

    go : (((v : ℕ) → bound_to es v ≡ bound_to fs v) → es ≡ fs) → (c d : Bool) → nat_lt e.0 f.0 ≡ c → nat_lt f.0 e.0 ≡ d → e ∷ es ≡ f ∷ fs
    go ih true d ec ed =
        let lt : e.0 < f.0 = ltb-true e.0 f.0 ec in
        let k : Some e.1 ≡ None = sym (first-bound e es) ∙ h e.0 ∙ above-none e.0 (f ∷ fs) (lt, under f e.0 fs lt b.0) in
        absurd (cc)
    go ih false true ec ed =
        let lt : f.0 < e.0 = ltb-true f.0 e.0 ed in
        let k : None ≡ Some f.1 = sym (above-none f.0 (e ∷ es) (lt, under e f.0 es lt a.0)) ∙ h f.0 ∙ first-bound f fs in
        absurd (cc)
    go ih false false ec ed =
        let le : f.0 ≤ e.0 = ltb-false e.0 f.0 ec in
        let ge : e.0 ≤ f.0 = ltb-false f.0 e.0 ed in
        let same : e.0 ≡ f.0 = omega arith in
        let value : Some e.1 ≡ Some f.1 = sym (first-bound e es) ∙ h e.0 ∙ ap (bound_to (f ∷ fs)) same ∙ first-bound f fs in
        let value' : e.1 ≡ f.1 = cc in
        let tail : es ≡ fs = ih (λ v. of_tail same v (nat_eq e.0 v) refl) in
        ap (λ n. (n, e.1) ∷ es) same ∙ ap (λ t. (f.0, t) ∷ es) value' ∙ ap (λ gs. f ∷ gs) tail
      where
        of_tail : e.0 ≡ f.0 → (v : ℕ) (c : Bool) → nat_eq e.0 v ≡ c → bound_to es v ≡ bound_to fs v
        of_tail same v true ec' =
            let ev : e.0 ≡ v = eqb-true e.0 v ec' in
            ap (bound_to es) (sym ev) ∙ above-none e.0 es a.0 ∙ sym (above-none f.0 fs b.0) ∙ ap (bound_to fs) (sym same ∙ ev)
        of_tail same v false ec' = sym (later-bound e es v ec') ∙ h v ∙ later-bound f fs v (ap (λ n. nat_eq n v) (sym same) ∙ ec')

bound-value : (s : Subst) (v : ℕ) (t : Term) → bound_to s v ≡ Some t → value_at s v ≡ t
bound-value [] v t h = absurd (cc)
bound-value (e ∷ es) v t h = go (nat_eq e.0 v) (bound-value es v t) h
  where
    go : (b : Bool) → (bound_to es v ≡ Some t → value_at es v ≡ t) → cond b (Some e.1) (bound_to es v) ≡ Some t → cond b e.1 (value_at es v) ≡ t
    go true ih h' = cc
    go false ih h' = ih h'

-- a variable that stands for itself is unbound
itself-unbound : (s : Subst) (v : ℕ) → IsSubst s → value_at s v ≡ Var v → bound_to s v ≡ None
itself-unbound s v id h = id.idem.free v v (ap (occurs v) h ∙ eq-eqb v v refl)

-- substitutions that give the same values are the same
pub values-same : (s t : Subst) → IsSubst s → IsSubst t → ((v : ℕ) → value_at s v ≡ value_at t v) → s ≡ t
values-same s t is it h = sorted-same s t is.sorted it.sorted (λ v. go v (bound_to s v) (bound_to t v) refl refl)
  where
    go : (v : ℕ) (x y : Option Term) → bound_to s v ≡ x → bound_to t v ≡ y → bound_to s v ≡ bound_to t v
    go v None y ex ey = ex ∙ sym (itself-unbound t v it (sym (h v) ∙ unbound v s ex))
    go v (Some a) None ex ey = itself-unbound s v is (h v ∙ unbound v t ey) ∙ sym ey
    go v (Some a) (Some b) ex ey = ex ∙ ap Some (sym (bound-value s v a ex) ∙ h v ∙ bound-value t v b ey) ∙ sym ey

-- ---- what solving gives has the four parts

none-or : (o : Option Term) → is_some o ≡ false → o ≡ None
none-or None e = refl
none-or (Some t) e = absurd (cc)

some-or : (o : Option Term) → is_some o ≡ true → o ≡ None → ⊥
some-or o e n = differ (is_some o) e (ap is_some n)

some-kept : (o p : Option Term) → (p ≡ None → o ≡ None) → is_some o ≡ true → is_some p ≡ true
some-kept o None f e = absurd (some-or o e (f refl))
some-kept o (Some t) f e = refl

pub mgu-is : (s : Subst) (a b : Term) (u : Subst) → IsSubst s → mgu s a b ≡ Some u → Mgu s a b u
mgu-is s a b u id e =
    let g = mgu_good s a b u e id in
    let m = mgu-made s a b u e id in
    record {
      solves = record { is_subst = g.is_subst; over = λ v. g.over.at v; same = g.equal.0 };
      most_general = λ u2 h v. (g.general (value_at u2) (record { at = h.over }) (h.same, tt)).at v;
      binds = λ v k. some-kept (bound_to s v) (bound_to u v) (m.binds v) k;
      binds_only = λ v k n. m.only v (none-or (bound_to s v) n) k;
      least = λ x v y ex n ey. m.least v y n ey;
    }

-- ---- only one has the four parts

unbound-before : (s u : Subst) (v : ℕ) → (is_some (bound_to s v) ≡ true → is_some (bound_to u v) ≡ true) → bound_to u v ≡ None → bound_to s v ≡ None
unbound-before s u v k n = go (bound_to s v) refl
  where
    go : (o : Option Term) → bound_to s v ≡ o → o ≡ None
    go None e = refl
    go (Some t) e = absurd (some-or (bound_to u v) (k (ap is_some e)) n)

-- what one of two leaves unbound stands for itself under the other
fixed : (s : Subst) (a b : Term) (u u2 : Subst) → Mgu s a b u → Mgu s a b u2 → (w : ℕ) → bound_to u w ≡ None → value_at u2 w ≡ Var w
fixed s a b u u2 m m2 w n = go (value_at u2 w) refl (sym (unbound w u n) ∙ m2.most_general u m.solves w)
  where
    go : (t : Term) → value_at u2 w ≡ t → Var w ≡ apply u (value_at u2 w) → value_at u2 w ≡ Var w
    go (Var x) e h =
        let back : value_at u x ≡ Var w = sym (h ∙ ap (apply u) e) in
        let nx : bound_to u2 x ≡ None = m2.solves.is_subst.idem.free w x (ap (occurs x) e ∙ eq-eqb x x refl) in
        let le : w ≤ x = m.least w w x (unbound w u n) (unbound-before s u2 x (m2.binds x) nx) back in
        let ge : x ≤ w = m2.least w x w e (unbound-before s u w (m.binds w) n) e in
        let same : x ≡ w = omega arith in
        e ∙ ap Var same
    go (Int z) e h = let k : Var w ≡ Int z = h ∙ ap (apply u) e in absurd (cc)
    go (Atom c) e h = let k : Var w ≡ Atom c = h ∙ ap (apply u) e in absurd (cc)
    go (Comp c ts) e h = let k : Var w ≡ apply u (Comp c ts) = h ∙ ap (apply u) e in absurd (cc)

pub mgu-unique : (s : Subst) (a b : Term) (u u2 : Subst) → Mgu s a b u → Mgu s a b u2 → u ≡ u2
mgu-unique s a b u u2 m m2 = values-same u u2 m.solves.is_subst m2.solves.is_subst (λ x.
    sym (m.most_general u2 m2.solves x ∙ replaced-itself (value_at u2) (value_at u x) (λ w o. fixed s a b u u2 m m2 w (m.solves.is_subst.idem.free x w o))))

-- ---- the law

pub one_unifier : MguIsTheOneUnifier
one_unifier s a b id = record {
  unifier = λ u. (mgu-is s a b u id, λ m. found u m (mgu s a b) refl);
  none = (λ e u h. nothing e u h, λ h. none h (mgu s a b) refl);
}
  where
    nothing : mgu s a b ≡ None → (u : Subst) → Solves s a b u → ⊥
    nothing e u h = mgu_full s a b (value_at u) e id.idem (record { at = h.over }) h.same

    found : (u : Subst) → Mgu s a b u → (o : Option Subst) → mgu s a b ≡ o → mgu s a b ≡ Some u
    found u m None e = absurd (nothing e u m.solves)
    found u m (Some u') e = e ∙ ap Some (mgu-unique s a b u' u (mgu-is s a b u' id e) m)

    none : ((u : Subst) → Solves s a b u → ⊥) → (o : Option Subst) → mgu s a b ≡ o → o ≡ None
    none h None e = refl
    none h (Some u) e = absurd (h u (mgu-is s a b u id e).solves)
