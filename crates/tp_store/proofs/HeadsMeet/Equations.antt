-- What an equation comes to, step by step.
use Rattle.std.proofs.Common.{◌≡◌, ℕ, ◌≤◌, [], ◌∷◌, ◌++◌, None, refl, sym, ap, ◌∙◌, arith, ◌↔◌}
use Rattle.std.proofs.lemmas.Bool.{eq-eqb}
use Rattle.tp_terms.specs.Term.{Term, Var, Int, Atom, Comp, replaced, occurs}
use Rattle.tp_meaning.specs.Subst.{Subst, Equations, IsSubst, value_at, bound_to}
use Rattle.tp_meaning.proofs.Unification.Solved.{over_term, unbound, idem_over}
use Rattle.tp_store.specs.Work.{Extends, IsGeneral, NoneSolves}
use Rattle.tp_store.specs.Meeting.{ComesTo, Holds}
use Rattle.tp_store.proofs.Unifier.Steps.{over_of}
use Rattle.tp_store.proofs.Unifier.Solutions.{solved}

own : (s : Subst) → IsSubst s → Extends s (value_at s)
own s is = record { at = (idem_over s is.idem).at }

least_own : (s : Subst) (y v : ℕ) → bound_to s y ≡ None → value_at s y ≡ Var v → v ≤ y
least_own s y v free e = let k : Var y ≡ Var v = sym (unbound y s free) ∙ e in let q : y ≡ v = cc in omega arith

-- what extends u extends what u extends
extends-trans : (s u : Subst) (f : ℕ → Term) → Extends s (value_at u) → Extends u f → Extends s f
extends-trans s u f over e = record { at = λ v. e.at v ∙ ap (replaced f) (over.at v) ∙ sym (over_term f u (value_at s v) (over_of u f e)) }

pub Holds-append : (f : ℕ → Term) (es qs : Equations) → Holds f (es ++ qs) ↔ (Holds f es × Holds f qs)
Holds-append f [] qs = (λ h. (tt, h), λ h. h.1)
Holds-append f (e ∷ es) qs =
    let k = Holds-append f es qs in
    (λ h. let r = k.0 h.1 in ((h.0, r.0), r.1), λ h. (h.0.0, k.1 (h.0.1, h.1)))

-- the most general solution leaves no equation, and where none is left it is the most general
pub general_comes : (s : Subst) (a b : Term) (u : Subst) → IsGeneral s a b u → ComesTo s a b u []
general_comes s a b u g = record {
  over = g.over;
  same = λ f. (
    λ h. (g.general f h.0 h.1, tt),
    λ h.
        let o = over_of u f h.0 in
        (extends-trans s u f g.over h.0, over_term f u a o ∙ ap (replaced f) g.same ∙ sym (over_term f u b o)),
  );
  binds = g.binds;
  least = g.least;
}

pub comes_general : (s : Subst) (a b : Term) (u : Subst) → IsSubst u → ComesTo s a b u [] → IsGeneral s a b u
comes_general s a b u is c = solved s u a b is (λ f e. (c.same f).1 (e, tt)) (λ f e h. ((c.same f).0 (e, h)).0) c.binds c.least

-- the same bindings
pub comes_same : (s : Subst) (a b : Term) (es : Equations) → IsSubst s → ((f : ℕ → Term) → Extends s f → (replaced f a ≡ replaced f b) ↔ Holds f es) → ComesTo s a b s es
comes_same s a b es is k = record {
  over = own s is;
  same = λ f. (λ h. (h.0, (k f h.0).0 h.1), λ h. (h.0, (k f h.0).1 h.1));
  binds = λ v n. n;
  least = least_own s;
}

pub comes_start : (s : Subst) (a b : Term) → IsSubst s → ComesTo s a b s ((a, b) ∷ [])
comes_start s a b is = comes_same s a b ((a, b) ∷ []) is (λ f e. (λ h. (h, tt), λ h. h.0))

-- the first equation comes to further ones
pub comes_on : (s0 : Subst) (a b : Term) (s : Subst) (t h : Term) (u : Subst) (more left : Equations) → IsSubst s → ComesTo s0 a b s ((t, h) ∷ left) → ComesTo s t h u more → ComesTo s0 a b u (more ++ left)
comes_on s0 a b s t h u more left is i j = record {
  over = extends-trans s0 s (value_at u) i.over j.over;
  same = λ f. (
    λ k.
        let q = (i.same f).0 k in
        let r = (j.same f).0 (q.0, q.1.0) in
        (r.0, (Holds-append f more left).1 (r.1, q.1.1)),
    λ k.
        let q = (Holds-append f more left).0 k.1 in
        let r = (j.same f).1 (k.0, q.0) in
        (i.same f).1 (r.0, (r.1, q.1)),
  );
  binds = λ v n. i.binds v (j.binds v n);
  least = least;
}
  where
    least : (y v : ℕ) → bound_to s0 y ≡ None → value_at u y ≡ Var v → v ≤ y
    least y v free e = go (value_at s y) refl (sym ((j.over).at y) ∙ e)
      where
        go : (x : Term) → value_at s y ≡ x → replaced (value_at u) (value_at s y) ≡ Var v → v ≤ y
        go (Var z) is_z g =
            let n : bound_to s z ≡ None = is.idem.free y z (ap (occurs z) is_z ∙ eq-eqb z z refl) in
            let l : v ≤ z = j.least z v n (ap (replaced (value_at u)) (sym is_z) ∙ g) in
            let m : z ≤ y = i.least y z free is_z in
            omega arith
        go (Int n) is_z g = let k : Int n ≡ Var v = ap (replaced (value_at u)) (sym is_z) ∙ g in absurd (cc)
        go (Atom n) is_z g = let k : Atom n ≡ Var v = ap (replaced (value_at u)) (sym is_z) ∙ g in absurd (cc)
        go (Comp d ts) is_z g = let k : replaced (value_at u) (Comp d ts) ≡ Var v = ap (replaced (value_at u)) (sym is_z) ∙ g in absurd (cc)

-- where nothing solves the first equation nothing solves the whole
pub none_on : (s0 : Subst) (a b : Term) (s : Subst) (t h : Term) (left : Equations) → ComesTo s0 a b s ((t, h) ∷ left) → NoneSolves s t h → NoneSolves s0 a b
none_on s0 a b s t h left i n = λ f e q. let k = (i.same f).0 (e, q) in n f k.0 k.1.0

-- two terms that are equal exactly where two others are
pub comes_by : (s : Subst) (a b t h : Term) (u : Subst) (es : Equations) → ((f : ℕ → Term) → Extends s f → (replaced f a ≡ replaced f b) ↔ (replaced f t ≡ replaced f h)) → ComesTo s a b u es → ComesTo s t h u es
comes_by s a b t h u es k c = record {
  over = c.over;
  same = λ f. (
    λ q. (c.same f).0 (q.0, (k f q.0).1 q.1),
    λ q. let r = (c.same f).1 q in (r.0, (k f r.0).0 r.1),
  );
  binds = c.binds;
  least = c.least;
}

pub none_by : (s : Subst) (a b t h : Term) → ((f : ℕ → Term) → Extends s f → (replaced f a ≡ replaced f b) ↔ (replaced f t ≡ replaced f h)) → NoneSolves s a b → NoneSolves s t h
none_by s a b t h k n = λ f e q. n f e ((k f e).1 q)
