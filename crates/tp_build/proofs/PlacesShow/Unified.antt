-- Unifiers of terms that are seen.
use Rattle.std.proofs.Common.{◌≡◌, ℕ, zero, suc, ◌+◌, [], ◌∷◌, None, refl, ap, ◌∙◌}
use Rattle.tp_terms.specs.Term.{Term, term_size}
use Rattle.tp_meaning.specs.Subst.{Subst, IsSubst, Next, apply, mgu, rounds, walk, solve_pair}
use Rattle.tp_meaning.proofs.Unification.Applied.{apply-twice}

-- terms that are seen alike have the same unifier
pub mgu-same : (s : Subst) (a b c d : Term) → apply s a ≡ apply s c → apply s b ≡ apply s d → mgu s a b ≡ mgu s c d
unfolding mgu
mgu-same s a b c d e f =
    ap (λ t. rounds (term_size t + term_size (apply s b)) ((a, b) ∷ []) s) e
    ∙ ap (λ t. rounds (term_size (apply s c) + term_size t) ((a, b) ∷ []) s) f
    ∙ same_rounds (term_size (apply s c) + term_size (apply s d)) e f
  where
    same_walk : (next : Next) (z : ℕ) → apply s a ≡ apply s c → apply s b ≡ apply s d → walk next z ((a, b) ∷ []) s ≡ walk next z ((c, d) ∷ []) s
    same_walk next zero e f = refl
    same_walk next (suc z) e f =
        ap (λ t. solve_pair (walk next z) next t (apply s b) [] s) e ∙ ap (λ t. solve_pair (walk next z) next (apply s c) t [] s) f

    same_rounds : (k : ℕ) → apply s a ≡ apply s c → apply s b ≡ apply s d → rounds k ((a, b) ∷ []) s ≡ rounds k ((c, d) ∷ []) s
    same_rounds zero e f = ap (λ t. walk (λ es s'. None) (term_size t + 0) ((a, b) ∷ []) s) e ∙ same_walk (λ es s'. None) (term_size (apply s c) + 0) e f
    same_rounds (suc k) e f = ap (λ t. walk (rounds k) (term_size t + 0) ((a, b) ∷ []) s) e ∙ same_walk (rounds k) (term_size (apply s c) + 0) e f

-- a unifier of terms that are seen is one of the terms
pub mgu-seen : (s : Subst) (a b : Term) → IsSubst s → mgu s (apply s a) (apply s b) ≡ mgu s a b
mgu-seen s a b is = mgu-same s (apply s a) (apply s b) a b (apply-twice s a is.idem) (apply-twice s b is.idem)
