-- Substitutions applied one after another, and to renamed terms.
use Rattle.std.proofs.Common.{◌≡◌, ℕ, ◌+◌, ◌<◌, Bool, true, false, nat_eq, [], ◌∷◌, Some, None, refl, ◌∙◌, sym, arith, if◌then◌else◌}
use Rattle.std.proofs.lemmas.Bool.{eqb-true}
use Rattle.tp_terms.specs.Term.{Term, Var, replaced, occurs}
use Rattle.tp_meaning.specs.Subst.{Subst, Idem, IsSubst, mgu, value_at, apply, bound_to}
use Rattle.tp_meaning.specs.Unifier.{Solves}
use Rattle.tp_meaning.specs.Clauses.{renamed}
use Rattle.tp_meaning.proofs.Unification.Replaced.{replaced-replaced, replaced-same}
use Rattle.tp_meaning.proofs.Unification.Solved.{over_term, unbound, replaced-itself, free_applied, mgu_good}
use Rattle.tp_meaning.proofs.Unification.Under.{Bound}

-- what solving an equation gives solves it
pub mgu-solves : (s : Subst) (a b : Term) (u : Subst) → IsSubst s → mgu s a b ≡ Some u → Solves s a b u
mgu-solves s a b u id e = let g = mgu_good s a b u e id in record { is_subst = g.is_subst; over = λ v. g.over.at v; same = g.equal.0 }

-- a map over another sees no difference
pub apply-over : (u s : Subst) → ((v : ℕ) → apply u (Var v) ≡ apply u (apply s (Var v))) → (t : Term) → apply u (apply s t) ≡ apply u t
apply-over u s h t = sym (over_term (value_at u) s t (record { at = h }))

pub solves-over : (s : Subst) (a b : Term) (u : Subst) → Solves s a b u → (t : Term) → apply u (apply s t) ≡ apply u t
solves-over s a b u h t = apply-over u s h.over t

-- applied twice is applied once
pub apply-twice : (s : Subst) (t : Term) → Idem s → apply s (apply s t) ≡ apply s t
apply-twice s t id = replaced-itself (value_at s) (apply s t) (λ w o. unbound w s (free_applied s t w id o))

-- a term that was seen under a map is left as it is, where none of its variables is bound
pub apply-unbound : (s : Subst) (t : Term) → ((w : ℕ) → occurs w t ≡ true → bound_to s w ≡ None) → apply s t ≡ t
apply-unbound s t h = replaced-itself (value_at s) t (λ w o. unbound w s (h w o))

-- the empty map changes nothing
pub apply-empty : (t : Term) → apply [] t ≡ t
apply-empty t = replaced-itself (value_at []) t (λ w o. refl)

-- a renamed term under a map
pub apply-renamed : (s : Subst) (n : ℕ) (t : Term) → apply s (renamed n t) ≡ replaced (λ v. value_at s (v + n)) t
apply-renamed s n t = replaced-replaced (value_at s) (λ v. Var (v + n)) t

-- a map below a number binds no variable from there on
pub unbound-above : (n : ℕ) (s : Subst) (v : ℕ) → Bound n s → value_at s (v + n) ≡ Var (v + n)
unbound-above n [] v b = refl
unbound-above n (e ∷ es) v b = go (nat_eq e.0 (v + n)) refl (unbound-above n es v b.1)
  where
    go : (c : Bool) → nat_eq e.0 (v + n) ≡ c → value_at es (v + n) ≡ Var (v + n) → (if c then e.1 else value_at es (v + n)) ≡ Var (v + n)
    go true ec h = let lt : e.0 < n = b.0.0 in let eq : e.0 ≡ v + n = eqb-true e.0 (v + n) ec in absurd (omega arith)
    go false ec h = h

pub apply-renamed-new : (s : Subst) (n : ℕ) (t : Term) → Bound n s → apply s (renamed n t) ≡ renamed n t
apply-renamed-new s n t b = apply-renamed s n t ∙ replaced-same (λ v. value_at s (v + n)) (λ v. Var (v + n)) t (λ v _. unbound-above n s v b)
