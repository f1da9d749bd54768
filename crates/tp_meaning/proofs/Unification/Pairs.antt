-- Two equations that are solved as one.
use Rattle.std.proofs.Common.{◌≡◌, ℕ, zero, suc, ◌+◌, ◌≤◌, Bool, true, false, ◌||◌, [], ◌∷◌, Option, Some, None, is_some, refl, ap, sym, subst, ◌∙◌, arith, ◌⊎◌, inl, inr}
use Rattle.std.proofs.lemmas.Bool.{eq-eqb}
use Rattle.tp_terms.specs.Term.{Name, Term, Var, Int, Atom, Comp, NoMore, More, occurs, term_eq, names_eq, term_size}
use Rattle.tp_meaning.specs.Subst.{Subst, IsSubst, Next, mgu, apply, value_at, bound_to, extended, solve_pair, walk, rounds, size_under}
use Rattle.tp_meaning.specs.Unifier.{IsConstant, Solves, Mgu, pair}
use Rattle.tp_meaning.proofs.Unification.Solved.{or_either, either, occurs-replaced, free_applied, tested}
use Rattle.tp_meaning.proofs.Unification.Complete.{apply-extended, left, right}
use Rattle.tp_meaning.proofs.Unification.Applied.{solves-over}
use Rattle.tp_meaning.proofs.Unification.OneUnifier.{mgu-is, one_unifier}

-- ---- one side is a constant

constant-free : (v : ℕ) (c : Term) → IsConstant c → occurs v c ≡ true → ⊥
constant-free v (Atom a) k e = absurd (cc)
constant-free v (Int z) k e = absurd (cc)
constant-free v (Var w) k e = absurd k
constant-free v (Comp f ts) k e = absurd k

-- What solving such an equation gives: the map itself, or one more entry.
abbrev Gives : Subst → Term → Subst → Type 0
Gives s c u = (u ≡ s) ⊎ ((v : ℕ) × (bound_to s v ≡ None) × (u ≡ extended s v c))

-- no equations leave the map
abbrev Ends : Next → Type 0
Ends next = (s u : Subst) → next [] s ≡ Some u → u ≡ s

abbrev FreeIn : Subst → Term → Type 0
FreeIn s t = (w : ℕ) → occurs w t ≡ true → bound_to s w ≡ None

pair-gives : (same next : Next) → Ends same → Ends next → (t c : Term) (s u : Subst) → IsConstant c → FreeIn s t → solve_pair same next t c [] s ≡ Some u → Gives s c u
pair-gives same next es en (Var v) (Int n) s u k free e = inr (v, free v (eq-eqb v v refl), en (extended s v (Int n)) u e)
pair-gives same next es en (Var v) (Atom a) s u k free e = inr (v, free v (eq-eqb v v refl), en (extended s v (Atom a)) u e)
pair-gives same next es en (Int m) (Int n) s u k free e = tested (term_eq (Int m) (Int n)) (Gives s (Int n) u) (same [] s) u e (λ t e'. inl (es s u e'))
pair-gives same next es en (Atom a) (Atom b) s u k free e = tested (names_eq a b) (Gives s (Atom b) u) (same [] s) u e (λ t e'. inl (es s u e'))
pair-gives same next es en (Int m) (Atom b) s u k free e = absurd (cc)
pair-gives same next es en (Atom a) (Int n) s u k free e = absurd (cc)
pair-gives same next es en (Comp f ts) (Int n) s u k free e = absurd (cc)
pair-gives same next es en (Comp f ts) (Atom b) s u k free e = absurd (cc)
pair-gives same next es en t (Var v) s u k free e = absurd k
pair-gives same next es en t (Comp g us) s u k free e = absurd k

walk-ends : (next : Next) (z : ℕ) → Ends (walk next z)
walk-ends next zero s u e = cc
walk-ends next (suc z) s u e = cc

rounds-ends : (n : ℕ) → Ends (rounds n)
rounds-ends zero s u e = cc
rounds-ends (suc n) s u e = cc

apply-constant : (s : Subst) (c : Term) → IsConstant c → apply s c ≡ c
apply-constant s (Atom a) k = refl
apply-constant s (Int z) k = refl
apply-constant s (Var w) k = absurd k
apply-constant s (Comp f ts) k = absurd k

walk-gives : (next : Next) → Ends next → (z : ℕ) (a c : Term) (s u : Subst) → IsSubst s → IsConstant c → walk next z ((a, c) ∷ []) s ≡ Some u → Gives s c u
walk-gives next en zero a c s u is k e = absurd (cc)
walk-gives next en (suc z) a c s u is k e =
    pair-gives (walk next z) next (walk-ends next z) en (apply s a) c s u k (λ w o. free_applied s a w is.idem o)
    (ap (λ t. solve_pair (walk next z) next (apply s a) t [] s) (sym (apply-constant s c k)) ∙ e)

none-ends : Ends (λ es s. None)
none-ends s u e = absurd (cc)

rounds-gives : (n : ℕ) (a c : Term) (s u : Subst) → IsSubst s → IsConstant c → rounds n ((a, c) ∷ []) s ≡ Some u → Gives s c u
rounds-gives zero a c s u is k e = walk-gives (λ es s'. None) none-ends (size_under s ((a, c) ∷ [])) a c s u is k e
rounds-gives (suc n) a c s u is k e = walk-gives (rounds n) (rounds-ends n) (size_under s ((a, c) ∷ [])) a c s u is k e

mgu-gives : (s : Subst) (a c : Term) (u : Subst) → IsSubst s → IsConstant c → mgu s a c ≡ Some u → Gives s c u
unfolding mgu
mgu-gives s a c u is k e = rounds-gives (term_size (apply s a) + term_size (apply s c)) a c s u is k e

-- it brings no variable into a term
brings-none : (s : Subst) (c : Term) (u : Subst) (v : ℕ) (y : Term) → IsConstant c → Gives s c u → occurs v (apply u y) ≡ true → occurs v (apply s y) ≡ true
brings-none s c u v y k (inl e) o = subst (λ q. occurs v (apply q y) ≡ true) e o
brings-none s c u v y k (inr g) o =
    let w = g.0 in
    either (occurs-replaced v w c (apply s y) (ap (occurs v) (sym (apply-extended w c s y g.1)) ∙ subst (λ q. occurs v (apply q y) ≡ true) g.2 o))
    (λ h. absurd (constant-free v c k h))
    (λ h. h.0)

-- ---- the pair

left-of : (f : Name) (a b c d : Term) (u : Subst) → apply u (pair f a b) ≡ apply u (pair f c d) → apply u a ≡ apply u c
left-of f a b c d u e = cc

right-of : (f : Name) (a b c d : Term) (u : Subst) → apply u (pair f a b) ≡ apply u (pair f c d) → apply u b ≡ apply u d
right-of f a b c d u e = cc

-- a solution of the pair solves the first equation, and then the second over its unifier
first-solved : (s : Subst) (f : Name) (a b c d : Term) (q : Subst) → Solves s (pair f a b) (pair f c d) q → Solves s a c q
first-solved s f a b c d q h = record { is_subst = h.is_subst; over = h.over; same = left-of f a b c d q h.same }

second-solved : (s : Subst) (f : Name) (a b c d : Term) (u q : Subst) → Mgu s a c u → Solves s (pair f a b) (pair f c d) q → Solves u b d q
second-solved s f a b c d u q m h = record {
  is_subst = h.is_subst;
  over = m.most_general q (first-solved s f a b c d q h);
  same = right-of f a b c d q h.same;
}

in-first : (v : ℕ) (f : Name) (a b : Term) (s : Subst) → occurs v (apply s a) ≡ true → occurs v (apply s (pair f a b)) ≡ true
in-first v f a b s o = left (occurs v (apply s a)) _ o

in-second : (v : ℕ) (f : Name) (a b : Term) (s : Subst) → occurs v (apply s b) ≡ true → occurs v (apply s (pair f a b)) ≡ true
in-second v f a b s o = right (occurs v (apply s a)) _ (left (occurs v (apply s b)) false o)

none-of : (o : Option Term) → is_some o ≡ false → o ≡ None
none-of None e = refl
none-of (Some t) e = absurd (cc)

-- what the two equations in turn give is the unifier of the pair
in-turn : (s : Subst) (f : Name) (a b c d : Term) (u w : Subst) → IsConstant c → Gives s c u → Mgu s a c u → Mgu u b d w → Mgu s (pair f a b) (pair f c d) w
in-turn s f a b c d u w k gives m n = record {
  solves = record {
    is_subst = n.solves.is_subst;
    over = λ v. n.solves.over v ∙ ap (apply w) (m.solves.over v) ∙ solves-over u b d w n.solves (apply s (Var v));
    same =
        ap (λ t. Comp f (More t (More (apply w b) NoMore))) first
        ∙ ap (λ t. Comp f (More (apply w c) (More t NoMore))) n.solves.same;
  };
  most_general = λ q h. n.most_general q (second-solved s f a b c d u q m h);
  binds = λ v e. n.binds v (m.binds v e);
  binds_only = λ v e e'. only v e e' (is_some (bound_to u v)) refl;
  least = λ x v y ex ny ey. least x v y ex ny ey (bound_to u y) refl;
}
  where
    first : apply w a ≡ apply w c
    first = sym (solves-over u b d w n.solves a) ∙ ap (apply w) m.solves.same ∙ solves-over u b d w n.solves c

    only : (v : ℕ) → is_some (bound_to w v) ≡ true → is_some (bound_to s v) ≡ false → (o : Bool) → is_some (bound_to u v) ≡ o → (occurs v (apply s (pair f a b)) || occurs v (apply s (pair f c d))) ≡ true
    only v e e' true eu =
        either (or_either (occurs v (apply s a)) (occurs v (apply s c)) (m.binds_only v eu e'))
        (λ o. left (occurs v (apply s (pair f a b))) _ (in-first v f a b s o))
        (λ o. right (occurs v (apply s (pair f a b))) _ (in-first v f c d s o))
    only v e e' false eu =
        either (or_either (occurs v (apply u b)) (occurs v (apply u d)) (n.binds_only v e eu))
        (λ o. left (occurs v (apply s (pair f a b))) _ (in-second v f a b s (brings-none s c u v b k gives o)))
        (λ o. right (occurs v (apply s (pair f a b))) _ (in-second v f c d s (brings-none s c u v d k gives o)))

    -- a variable that the first equation binds goes to a lesser one there
    through : (v y : ℕ) (t : Term) → value_at u y ≡ t → bound_to s y ≡ None → apply w t ≡ Var v → v ≤ y
    through v y (Var z) e ny h =
        let nz : bound_to u z ≡ None = m.solves.is_subst.idem.free y z (ap (occurs z) e ∙ eq-eqb z z refl) in
        let p : z ≤ y = m.least y z y e ny e in
        let q : v ≤ z = n.least z v z h nz h in
        omega arith
    through v y (Int z) e ny h = absurd (cc)
    through v y (Atom z) e ny h = absurd (cc)
    through v y (Comp g ts) e ny h = absurd (cc)

    least : (x v y : ℕ) → apply w (Var x) ≡ Var v → bound_to s y ≡ None → apply w (Var y) ≡ Var v → (o : Option Term) → bound_to u y ≡ o → v ≤ y
    least x v y ex ny ey None eu = n.least x v y ex eu ey
    least x v y ex ny ey (Some t) eu = through v y (value_at u y) refl ny (sym (n.solves.over y) ∙ ey)

-- Where the third term is an atom or an integer, two equations in turn are solved as the equation
-- of two compounds.
pub pairs : (s : Subst) (f : Name) (a b c d : Term) → IsSubst s → IsConstant c → mgu s (pair f a b) (pair f c d) ≡ elim (mgu s a c) as (λ _. Option Subst) [ None ↦ None | Some u ↦ mgu u b d ]
pairs s f a b c d is k = go (mgu s a c) refl
  where
    whole : (w : Subst) → Mgu s (pair f a b) (pair f c d) w → mgu s (pair f a b) (pair f c d) ≡ Some w
    whole w m = ((one_unifier s (pair f a b) (pair f c d) is).unifier w).1 m

    nothing : ((q : Subst) → Solves s (pair f a b) (pair f c d) q → ⊥) → mgu s (pair f a b) (pair f c d) ≡ None
    nothing h = (one_unifier s (pair f a b) (pair f c d) is).none.1 h

    second : (u : Subst) → mgu s a c ≡ Some u → (p : Option Subst) → mgu u b d ≡ p → mgu s (pair f a b) (pair f c d) ≡ p
    second u e None e' =
        let m = mgu-is s a c u is e in
        nothing (λ q h. (one_unifier u b d m.solves.is_subst).none.0 e' q (second-solved s f a b c d u q m h))
    second u e (Some w) e' =
        let m = mgu-is s a c u is e in
        whole w (in-turn s f a b c d u w k (mgu-gives s a c u is k e) m (mgu-is u b d w m.solves.is_subst e'))

    go : (o : Option Subst) → mgu s a c ≡ o → mgu s (pair f a b) (pair f c d) ≡ elim o as (λ _. Option Subst) [ None ↦ None | Some u ↦ mgu u b d ]
    go None e = nothing (λ q h. (one_unifier s a c is).none.0 e q (first-solved s f a b c d q h))
    go (Some u) e = second u e (mgu u b d) refl
