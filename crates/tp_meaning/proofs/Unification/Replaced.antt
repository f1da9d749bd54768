-- Terms whose variables are replaced.
use Rattle.std.proofs.Common.{◌≡◌, ℕ, Bool, true, false, ◌&&◌, ◌||◌, refl, ap, ◌∙◌}
use Rattle.tp_terms.specs.Term.{Term, Terms, Var, Int, Atom, Comp, NoMore, More, replaced, all_replaced, occurs, occurs_in, term_eq, terms_eq, names_eq}
use Rattle.std.proofs.lemmas.Slice.Eq.{bytes_eq-Decides}
use Rattle.std.proofs.lemmas.Bool.Decides.{Decides-int_eq}
use Rattle.std.proofs.lemmas.Bool.{eqb-true, eq-eqb}

-- one replacement after another is one replacement
mutual
  pub replaced-replaced : (f g : ℕ → Term) (t : Term) → replaced f (replaced g t) ≡ replaced (λ v. replaced f (g v)) t
  replaced-replaced f g (Var v) = refl
  replaced-replaced f g (Int n) = refl
  replaced-replaced f g (Atom a) = refl
  replaced-replaced f g (Comp h ts) = ap (Comp h) (all_replaced-all f g ts)

  pub all_replaced-all : (f g : ℕ → Term) (ts : Terms) → all_replaced f (all_replaced g ts) ≡ all_replaced (λ v. replaced f (g v)) ts
  all_replaced-all f g NoMore = refl
  all_replaced-all f g (More t ts) = ap (λ x. More x (all_replaced f (all_replaced g ts))) (replaced-replaced f g t) ∙ ap (More (replaced (λ v. replaced f (g v)) t)) (all_replaced-all f g ts)

pub or_true : (b : Bool) → (b || true) ≡ true
or_true true = refl
or_true false = refl

pub and_both : (a b : Bool) → (a && b) ≡ true → (a ≡ true) × (b ≡ true)
and_both true b e = (refl, e)
and_both false b e = absurd (cc)

-- replacements that agree on a term's variables
mutual
  pub replaced-same : (f g : ℕ → Term) (t : Term) → ((v : ℕ) → occurs v t ≡ true → f v ≡ g v) → replaced f t ≡ replaced g t
  replaced-same f g (Var v) h = h v (eq-eqb v v refl)
  replaced-same f g (Int n) h = refl
  replaced-same f g (Atom a) h = refl
  replaced-same f g (Comp c ts) h = ap (Comp c) (all_replaced-same f g ts h)

  pub all_replaced-same : (f g : ℕ → Term) (ts : Terms) → ((v : ℕ) → occurs_in v ts ≡ true → f v ≡ g v) → all_replaced f ts ≡ all_replaced g ts
  all_replaced-same f g NoMore h = refl
  all_replaced-same f g (More t ts) h =
      ap (λ x. More x (all_replaced f ts)) (replaced-same f g t (λ v e. h v (rw e refl)))
      ∙ ap (More (replaced g t)) (all_replaced-same f g ts (λ v e. h v (rw e (or_true (occurs v t)))))

-- equal terms, by the test
mutual
  pub term_eq-true : (t u : Term) → term_eq t u ≡ true → t ≡ u
  term_eq-true (Var v) (Var w) e = ap Var (eqb-true v w e)
  term_eq-true (Int m) (Int n) e = ap Int ((Decides-int_eq m n).0 e)
  term_eq-true (Atom a) (Atom b) e = ap Atom ((bytes_eq-Decides a b).0 e)
  term_eq-true (Comp f ts) (Comp g us) e = let h = and_both (names_eq f g) (terms_eq ts us) e in ap (λ n. Comp n ts) ((bytes_eq-Decides f g).0 h.0) ∙ ap (Comp g) (terms_eq-true ts us h.1)
  term_eq-true _ _ e = absurd (cc)

  pub terms_eq-true : (ts us : Terms) → terms_eq ts us ≡ true → ts ≡ us
  terms_eq-true NoMore NoMore e = refl
  terms_eq-true (More t ts) (More u us) e = let h = and_both (term_eq t u) (terms_eq ts us) e in ap (λ x. More x ts) (term_eq-true t u h.0) ∙ ap (More u) (terms_eq-true ts us h.1)
  terms_eq-true _ _ e = absurd (cc)
