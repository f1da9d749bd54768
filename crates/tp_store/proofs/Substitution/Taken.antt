-- A chain of bindings from which one is taken is a chain.
use Rattle.std.proofs.Common.{◌≡◌, ℕ, ◌<◌, Bool, true, false, cond, nat_eq, List, [], ◌∷◌, length, Option, Some, None, is_some, get_or, set, refl, ap, sym, ◌∙◌}
use Rattle.std.proofs.lemmas.Bool.{eqb-true, eq-eqb}
use Rattle.std.proofs.lemmas.List.{get_or-set_same, get_or-set_other}
use Rattle.tp_terms.specs.declared.cells.Cell.{Cell}
use Rattle.tp_terms.specs.declared.cells.Ref.{Ref}
use Rattle.tp_terms.specs.Term.{Name, Term, Terms, Var, Int, Atom, Comp, NoMore, More, replaced, all_replaced, occurs, occurs_in}
use Rattle.tp_terms.specs.Shown.{shows}
use Rattle.tp_terms.specs.Binds.{Bindings, bound_in}
use Rattle.tp_meaning.specs.Subst.{Subst, IsSubst, value_at, apply, extended, for_one, bound_to}
use Rattle.tp_meaning.proofs.Unification.Solved.{Over, over_term, over_extended, differ, unbound as itself, value-extended, or_either, either}
use Rattle.tp_meaning.proofs.Unification.Complete.{apply-extended, twice, left, right}
use Rattle.tp_store.specs.Contents.{Contents, chained, AreChained, IsStore}
use Rattle.tp_store.specs.Chain.{IsTable}
use Rattle.tp_store.specs.Logged.{IsBound, without_pair, unbound}
use Rattle.tp_store.proofs.Substitution.Chained.{IsSubst-chained, unnamed, named}

-- ---- the map from numbers to places

-- a variable that was unbound is unbound
without-none : (n x : ℕ) (pairs : Bindings) → bound_in pairs x ≡ None → bound_in (without_pair n pairs) x ≡ None
without-none n x [] e = refl
without-none n x (p ∷ pairs) e = go (nat_eq p.0 n) (nat_eq p.0 x) refl e (without-none n x pairs)
  where
    go : (b c : Bool) → nat_eq p.0 x ≡ c → cond c (Some p.1) (bound_in pairs x) ≡ None → (bound_in pairs x ≡ None → bound_in (without_pair n pairs) x ≡ None) → bound_in (cond b pairs (p ∷ without_pair n pairs)) x ≡ None
    go b true q h less = absurd (cc)
    go true false q h less = h
    go false false q h less = ap (λ c. cond c (Some p.1) (bound_in (without_pair n pairs) x)) q ∙ less h

-- another variable is bound as before
without-other : (n x : ℕ) (pairs : Bindings) → nat_eq n x ≡ false → bound_in (without_pair n pairs) x ≡ bound_in pairs x
without-other n x [] d = refl
without-other n x (p ∷ pairs) d = go (nat_eq p.0 n) refl (without-other n x pairs d)
  where
    go : (b : Bool) → nat_eq p.0 n ≡ b → bound_in (without_pair n pairs) x ≡ bound_in pairs x → bound_in (cond b pairs (p ∷ without_pair n pairs)) x ≡ bound_in (p ∷ pairs) x
    go true q less = sym (ap (λ c. cond c (Some p.1) (bound_in pairs x)) (ap (λ k. nat_eq k x) (eqb-true p.0 n q) ∙ d))
    go false q less = ap (λ o. cond (nat_eq p.0 x) (Some p.1) o) less

-- ---- terms

-- a variable that stands for itself stays where it occurs
mutual
  occurs-stays : (f : ℕ → Term) (v : ℕ) → f v ≡ Var v → (t : Term) → occurs v t ≡ true → occurs v (replaced f t) ≡ true
  occurs-stays f v e (Var w) o = ap (occurs v) (ap f (sym (eqb-true v w o)) ∙ e) ∙ eq-eqb v v refl
  occurs-stays f v e (Int n) o = absurd (cc)
  occurs-stays f v e (Atom a) o = absurd (cc)
  occurs-stays f v e (Comp c ts) o = occurs_in-stays f v e ts o

  occurs_in-stays : (f : ℕ → Term) (v : ℕ) → f v ≡ Var v → (ts : Terms) → occurs_in v ts ≡ true → occurs_in v (all_replaced f ts) ≡ true
  occurs_in-stays f v e NoMore o = absurd (cc)
  occurs_in-stays f v e (More t ts) o =
      either (or_either (occurs v t) (occurs_in v ts) o)
      (λ h. left (occurs v (replaced f t)) (occurs_in v (all_replaced f ts)) (occurs-stays f v e t h))
      (λ h. right (occurs v (replaced f t)) (occurs_in v (all_replaced f ts)) (occurs_in-stays f v e ts h))

over-trans : (f : ℕ → Term) (s s' : Subst) → Over f s → Over (value_at s) s' → Over f s'
over-trans f s s' o o' = record { at = λ v. o.at v ∙ ap (replaced f) (o'.at v) ∙ sym (over_term f s (value_at s' v) o) }

over-new : (v : ℕ) (t : Term) (s : Subst) → IsSubst s → bound_to s v ≡ None → Over (value_at (extended s v t)) s
over-new v t s is free = record { at = λ x. value-extended v x t s free ∙ sym (apply-extended v t s (value_at s x) free ∙ ap (replaced (for_one v t)) (twice s (Var x) is.idem)) }

-- what isn't in the term under more bindings isn't there under fewer
still_apart : (s s' : Subst) (v : ℕ) (t : Term) → Over (value_at s) s' → value_at s v ≡ Var v → occurs v (apply s t) ≡ false → occurs v (apply s' t) ≡ false
still_apart s s' v t o e out = go (occurs v (apply s' t)) refl
  where
    go : (b : Bool) → occurs v (apply s' t) ≡ b → occurs v (apply s' t) ≡ false
    go true h = absurd (differ (occurs v (apply s t)) (ap (occurs v) (over_term (value_at s) s' t o) ∙ occurs-stays (value_at s) v e (apply s' t) h) out)
    go false h = h

-- ---- chains

module _ (names : List Name) (cells : List Cell) (vars : ℕ) where
  -- a chain again, and its substitution says what the one before said of fewer variables
  abbrev pub Lets : Bindings → Bindings → Type 0
  Lets pairs less = AreChained names cells vars less × Over (value_at (chained names cells pairs)) (chained names cells less)

  -- the newest binding is of another variable than the one taken back
  module _ (p : ℕ × Ref) (pairs less : Bindings) (h : AreChained names cells vars (p ∷ pairs)) (none : bound_in less p.0 ≡ None) (k : Lets pairs less) where
    over_newest : Over (value_at (chained names cells (p ∷ pairs))) (chained names cells pairs)
    unfolding chained
    over_newest = over-new p.0 (apply (chained names cells pairs) (shows names cells p.1.at)) (chained names cells pairs) (IsSubst-chained names cells vars pairs h.1) (unnamed names cells vars pairs p.0 h.1 (h.0).unbound)

    over_less : Over (value_at (chained names cells (p ∷ pairs))) (chained names cells less)
    over_less = over-trans (value_at (chained names cells (p ∷ pairs))) (chained names cells pairs) (chained names cells less) over_newest k.1

    newest_value : value_at (chained names cells (p ∷ pairs)) p.0 ≡ apply (chained names cells (p ∷ pairs)) (shows names cells p.1.at)
    newest_value = (named names cells vars (p ∷ pairs) p.0 p.1 h (ap (λ b. cond b (Some p.1) (bound_in pairs p.0)) (eq-eqb p.0 p.0 refl))).value

    lets_newest : Lets (p ∷ pairs) (p ∷ less)
    unfolding chained
    lets_newest = (
      (
        record {
          claimed = (h.0).claimed;
          stands = (h.0).stands;
          unbound = none;
          apart = still_apart (chained names cells pairs) (chained names cells less) p.0 (shows names cells p.1.at) k.1
              (itself p.0 (chained names cells pairs) (unnamed names cells vars pairs p.0 h.1 (h.0).unbound)) (h.0).apart;
          older = (h.0).older;
        },
        k.0,
      ),
      over_extended (value_at (chained names cells (p ∷ pairs))) p.0 (apply (chained names cells less) (shows names cells p.1.at)) (chained names cells less)
          (unnamed names cells vars less p.0 k.0 none)
          (newest_value ∙ over_term (value_at (chained names cells (p ∷ pairs))) (chained names cells less) (shows names cells p.1.at) over_less)
          over_less,
    )

  over_none : Over (value_at (chained names cells [])) (chained names cells [])
  unfolding chained
  over_none = record { at = λ v. refl }

  pub lets : (n : ℕ) (pairs : Bindings) → AreChained names cells vars pairs → Lets pairs (without_pair n pairs)
  lets n [] h = (tt, over_none)
  lets n (p ∷ pairs) h = go (nat_eq p.0 n) (lets n pairs h.1)
    where
      go : (b : Bool) → Lets pairs (without_pair n pairs) → Lets (p ∷ pairs) (cond b pairs (p ∷ without_pair n pairs))
      go true k = (h.1, over_newest p pairs (without_pair n pairs) h (without-none n p.0 pairs (h.0).unbound) k)
      go false k = lets_newest p pairs (without_pair n pairs) h (without-none n p.0 pairs (h.0).unbound) k

  pub AreChained-without : (n : ℕ) (pairs : Bindings) → AreChained names cells vars pairs → AreChained names cells vars (without_pair n pairs)
  AreChained-without n pairs h = (lets n pairs h).0

-- the variable is unbound afterwards
without-unbound : (names : List Name) (cells : List Cell) (vars n : ℕ) (pairs : Bindings) → AreChained names cells vars pairs → bound_in (without_pair n pairs) n ≡ None
without-unbound names cells vars n [] h = refl
without-unbound names cells vars n (p ∷ pairs) h = go (nat_eq p.0 n) refl (without-unbound names cells vars n pairs h.1)
  where
    go : (b : Bool) → nat_eq p.0 n ≡ b → bound_in (without_pair n pairs) n ≡ None → bound_in (cond b pairs (p ∷ without_pair n pairs)) n ≡ None
    go true e less = ap (bound_in pairs) (sym (eqb-true p.0 n e)) ∙ (h.0).unbound
    go false e less = ap (λ b. cond b (Some p.1) (bound_in (without_pair n pairs) n)) e ∙ less

-- a store without a binding
pub IsStore-unbound : (n : ℕ) (c : Contents) → IsStore c → IsStore (unbound n c)
IsStore-unbound n c s = record { built = s.built; chain = λ names. AreChained-without names c.cells c.vars n c.pairs (s.chain names); numbered = s.numbered }

pub IsTable-unbound : (n : ℕ) (c : Contents) (bound : List (Option Ref)) → IsStore c → IsTable bound c.pairs → n < length bound → IsTable (set bound n None) (without_pair n c.pairs)
IsTable-unbound n c bound s t lt = record { kept = λ x. at x (nat_eq n x) refl }
  where
    at : (x : ℕ) (b : Bool) → nat_eq n x ≡ b → get_or (set bound n None) x None ≡ bound_in (without_pair n c.pairs) x
    at x true e =
        ap (λ k. get_or (set bound n None) k None) (sym (eqb-true n x e)) ∙ get_or-set_same bound n None None lt
        ∙ sym (ap (bound_in (without_pair n c.pairs)) (sym (eqb-true n x e)) ∙ without-unbound [] c.cells c.vars n c.pairs (s.chain []))
    at x false e = get_or-set_other bound n x None None (other x e) ∙ t.kept x ∙ sym (without-other n x c.pairs e)
      where
        other : (x : ℕ) → nat_eq n x ≡ false → ¬ (x ≡ n)
        other x e same = let q : true ≡ false = sym (eq-eqb n x (sym same)) ∙ e in absurd (cc)

-- a bound variable's number was claimed
pub bound_claimed : (n : ℕ) (c : Contents) → IsStore c → IsBound c.pairs n → n < c.vars
bound_claimed n c s b = go (bound_in c.pairs n) refl
  where
    go : (o : Option Ref) → bound_in c.pairs n ≡ o → n < c.vars
    go (Some place) e = (named [] c.cells c.vars c.pairs n place (s.chain []) e).claimed
    go None e = let q : true ≡ false = sym b ∙ ap is_some e in absurd (cc)
