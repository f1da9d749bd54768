-- What chained bindings stand for.
use Rattle.std.proofs.Common.{◌≡◌, ℕ, ◌+◌, ◌<◌, ◌≤◌, Bool, true, false, cond, nat_eq, List, [], ◌∷◌, map, length, Option, Some, None, IfSome, slice_get, get_or, refl, ap, sym, subst, ◌∙◌, arith}
use Rattle.std.proofs.lemmas.Bool.{eqb-true, eq-eqb}
use Rattle.tp_terms.specs.declared.cells.Cell.{Cell}
use Rattle.tp_terms.specs.declared.cells.Cell.TheVariants as cell
use Rattle.tp_terms.specs.declared.cells.Ref.{Ref}
use Rattle.tp_terms.specs.Term.{Name, Term, Var, replaced, occurs}
use Rattle.tp_terms.specs.Shown.{shows}
use Rattle.tp_terms.specs.Binds.{Bindings, bound_in}
use Rattle.tp_meaning.specs.Subst.{Subst, IsSubst, value_at, apply, extended, for_one, bound_to}
use Rattle.tp_meaning.proofs.Unification.Solved.{differ, value-extended, unbound, put-none, mapped-none, subst_extended, free_applied, replaced-itself}
use Rattle.tp_meaning.proofs.Unification.Complete.{apply-extended}
use Rattle.tp_store.specs.Contents.{Contents, chained, Adds, AreChained, IsStore}
use Rattle.tp_store.specs.Chain.{IsTable, LeadsOn, rank}

-- ---- what a binding says of its variable

pub record Tied (names : List Name) (cells : List Cell) (vars : ℕ) (s : Subst) (v : ℕ) (place : Ref) : Type 0 where
  pub claimed : v < vars
  pub within : place.at < length cells
  pub value : value_at s v ≡ apply s (shows names cells place.at)
  pub older : (w : ℕ) → slice_get cells place.at ≡ Some (cell.Var w) → w < v

abbrev pub Says : List Name → List Cell → ℕ → Subst → ℕ → Option Ref → Type 0
Says names cells vars s v None = bound_to s v ≡ None
Says names cells vars s v (Some place) = Tied names cells vars s v place

-- where a variable doesn't occur nothing is replaced
pub apart_same : (v : ℕ) (t u : Term) → occurs v t ≡ false → replaced (for_one v u) t ≡ t
apart_same v t u out = replaced-itself (for_one v u) t (λ w o. go w o (nat_eq v w) refl)
  where
    go : (w : ℕ) → occurs w t ≡ true → (b : Bool) → nat_eq v w ≡ b → cond b u (Var w) ≡ Var w
    go w o true e = absurd (differ (occurs v t) (ap (λ z. occurs z t) (eqb-true v w e) ∙ o) out)
    go w o false e = refl

still_unbound : (v w : ℕ) (t : Term) (s : Subst) → nat_eq v w ≡ false → bound_to s w ≡ None → bound_to (extended s v t) w ≡ None
still_unbound v w t s n h = put-none v w t (map (λ e. (e.0, replaced (for_one v t) e.1)) s) n (mapped-none (replaced (for_one v t)) w s h)

module _ (names : List Name) (cells : List Cell) (vars : ℕ) where
  -- a further binding keeps what was said of another variable
  said_on : (v x : ℕ) (t : Term) (s : Subst) (o : Option Ref) → nat_eq v x ≡ false → bound_to s v ≡ None → Says names cells vars s x o → Says names cells vars (extended s v t) x o
  said_on v x t s None n free h = still_unbound v x t s n h
  said_on v x t s (Some place) n free h = record {
    claimed = h.claimed;
    within = h.within;
    value = value-extended v x t s free ∙ ap (replaced (for_one v t)) h.value ∙ sym (apply-extended v t s (shows names cells place.at) free);
    older = h.older;
  }

  said_new : (v : ℕ) (place : Ref) (pairs : Bindings) → bound_to (chained names cells pairs) v ≡ None → Adds names cells vars pairs v place → Tied names cells vars (chained names cells ((v, place) ∷ pairs)) v place
  unfolding chained
  said_new v place pairs free a =
      let s : Subst = chained names cells pairs in
      let t : Term = apply s (shows names cells place.at) in
      record {
        claimed = a.claimed;
        within = a.stands;
        value =
            value-extended v v t s free ∙ ap (replaced (for_one v t)) (unbound v s free) ∙ ap (λ b. cond b t (Var v)) (eq-eqb v v refl)
            ∙ sym (apply-extended v t s (shows names cells place.at) free ∙ apart_same v t t a.apart);
        older = a.older;
      }

  pub stands : (pairs : Bindings) (x : ℕ) → AreChained names cells vars pairs → Says names cells vars (chained names cells pairs) x (bound_in pairs x)
  unfolding chained
  stands [] x h = refl
  stands (p ∷ pairs) x h = go (subst (Says names cells vars (chained names cells pairs) p.0) (h.0).unbound (stands pairs p.0 h.1)) (stands pairs x h.1) (nat_eq p.0 x) refl
    where
      go : bound_to (chained names cells pairs) p.0 ≡ None → Says names cells vars (chained names cells pairs) x (bound_in pairs x) → (b : Bool) → nat_eq p.0 x ≡ b → Says names cells vars (chained names cells (p ∷ pairs)) x (cond b (Some p.1) (bound_in pairs x))
      go free said true e = subst (λ y. Says names cells vars (chained names cells (p ∷ pairs)) y (Some p.1)) (eqb-true p.0 x e) (said_new p.0 p.1 pairs free h.0)
      go free said false e = said_on p.0 x (apply (chained names cells pairs) (shows names cells p.1.at)) (chained names cells pairs) (bound_in pairs x) e free said

  -- a variable that no binding names is unbound
  pub unnamed : (pairs : Bindings) (v : ℕ) → AreChained names cells vars pairs → bound_in pairs v ≡ None → bound_to (chained names cells pairs) v ≡ None
  unnamed pairs v h e = subst (Says names cells vars (chained names cells pairs) v) e (stands pairs v h)

  pub named : (pairs : Bindings) (v : ℕ) (place : Ref) → AreChained names cells vars pairs → bound_in pairs v ≡ Some place → Tied names cells vars (chained names cells pairs) v place
  named pairs v place h e = subst (Says names cells vars (chained names cells pairs) v) e (stands pairs v h)

  pub IsSubst-chained : (pairs : Bindings) → AreChained names cells vars pairs → IsSubst (chained names cells pairs)
  unfolding chained
  IsSubst-chained [] h = record { sorted = tt; idem = record { free = λ x w e. refl } }
  IsSubst-chained (p ∷ pairs) h =
      let is = IsSubst-chained pairs h.1 in
      let s : Subst = chained names cells pairs in
      subst_extended p.0 (apply s (shows names cells p.1.at)) s (unnamed pairs p.0 h.1 (h.0).unbound) (h.0).apart
      (record { free = λ w e. free_applied s (shows names cells p.1.at) w is.idem e }) is

  -- a variable from the first free number on is in no binding
  pub unclaimed : (pairs : Bindings) (x : ℕ) → AreChained names cells vars pairs → vars ≤ x → bound_in pairs x ≡ None
  unclaimed [] x h le = refl
  unclaimed (p ∷ pairs) x h le = let lt : p.0 < vars = (h.0).claimed in ap (λ b. cond b (Some p.1) (bound_in pairs x)) (apart (nat_eq p.0 x) refl lt) ∙ unclaimed pairs x h.1 le
    where
      apart : (b : Bool) → nat_eq p.0 x ≡ b → p.0 < vars → nat_eq p.0 x ≡ false
      apart true e lt = absurd (let q : p.0 ≡ x = eqb-true p.0 x e in omega arith)
      apart false e lt = e

-- ---- one step along a chain

-- the place that the table has for a variable is that of its binding
pub table_at : (bound : List (Option Ref)) (pairs : Bindings) (v : ℕ) (o : Option Ref) → IsTable bound pairs → o ≡ get_or bound v None → bound_in pairs v ≡ o
table_at bound pairs v o t e = sym (t.kept v) ∙ sym e

leads_on : (c : Contents) (v : ℕ) (next : Ref) → IsStore c → bound_in c.pairs v ≡ Some next → LeadsOn c (cell.Var v) next
leads_on c v next s e = record {
  bound = (v, e);
  within = (named [] c.cells c.vars c.pairs v next (s.chain []) e).within;
  same = λ names. sym (named names c.cells c.vars c.pairs v next (s.chain names) e).value;
  falls = falls;
}
  where
    falls : (y : Cell) → slice_get c.cells next.at ≡ Some y → rank y < v + 1
    falls (cell.Var w) f = let lt : w < v = (named [] c.cells c.vars c.pairs v next (s.chain []) e).older w f in omega arith
    falls (cell.Int value) f = omega arith
    falls (cell.Atom name) f = omega arith
    falls (cell.Comp name first count) f = omega arith

pub step_leads : (c : Contents) (bound : List (Option Ref)) (x : Cell) (v : ℕ) (o : Option Ref) → IsStore c → IsTable bound c.pairs → x ≡ cell.Var v → o ≡ get_or bound v None → IfSome o (λ next. LeadsOn c x next)
step_leads c bound x v None s t is e = tt
step_leads c bound x v (Some next) s t is e = subst (λ y. LeadsOn c y next) (sym is) (leads_on c v next s (table_at bound c.pairs v (Some next) t e))
