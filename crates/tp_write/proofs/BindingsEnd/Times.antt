-- Replacing the variables of a term again and again: where no variable leads back to itself, it comes to an end.
use Rattle.std.proofs.Common.{◌≡◌, ℕ, zero, suc, ◌+◌, ◌<◌, ◌≤◌, nat_eq, Bool, true, false, ◌||◌, List, [], ◌∷◌, length, Option, Some, None, refl, sym, ap, ◌∙◌, ◌⊎◌, inl, inr, arith, if◌then◌else◌}
use Rattle.std.proofs.lemmas.Bool.{eqb-true}
use Rattle.tp_terms.specs.declared.cells.Cell.{Cell}
use Rattle.tp_terms.specs.declared.cells.Ref.{Ref}
use Rattle.tp_terms.specs.Term.{Term, Terms, Var, Int, Atom, Comp, NoMore, More, occurs, occurs_in, replaced, all_replaced}
use Rattle.tp_terms.specs.Shown.{shows}
use Rattle.tp_terms.specs.Binds.{Bindings, bound_in, LeadsAtOnce, Leads, at_once, Fits}
use Rattle.tp_terms.proofs.Places.Bound.{Leads-trans}

-- ---- replaced variables

or_either : (a b : Bool) → (a || b) ≡ true → (a ≡ true) ⊎ (b ≡ true)
or_either true b e = inl refl
or_either false b e = inr e

or_left : (a b : Bool) → a ≡ true → (a || b) ≡ true
or_left true b e = refl
or_left false b e = absurd (cc)

or_right : (a b : Bool) → b ≡ true → (a || b) ≡ true
or_right true b e = refl
or_right false b e = e

-- what a replacement does depends on the variables that occur
mutual
  -- two replacements that agree on the variables of a term do the same to it
  pub replaced-agree : (f g : ℕ → Term) (t : Term) → ((v : ℕ) → occurs v t ≡ true → f v ≡ g v) → replaced f t ≡ replaced g t
  replaced-agree f g (Var v) h = h v (same v)
    where
      same : (n : ℕ) → nat_eq n n ≡ true
      same n = grind arith
  replaced-agree f g (Int n) h = refl
  replaced-agree f g (Atom a) h = refl
  replaced-agree f g (Comp c ts) h = ap (Comp c) (all_replaced-agree f g ts h)

  pub all_replaced-agree : (f g : ℕ → Term) (ts : Terms) → ((v : ℕ) → occurs_in v ts ≡ true → f v ≡ g v) → all_replaced f ts ≡ all_replaced g ts
  all_replaced-agree f g NoMore h = refl
  all_replaced-agree f g (More t ts) h =
      ap (λ u. More u (all_replaced f ts)) (replaced-agree f g t (λ v o. h v (or_left (occurs v t) (occurs_in v ts) o)))
      ∙ ap (More (replaced g t)) (all_replaced-agree f g ts (λ v o. h v (or_right (occurs v t) (occurs_in v ts) o)))

mutual
  pub replaced-Var : (t : Term) → replaced Var t ≡ t
  replaced-Var (Var v) = refl
  replaced-Var (Int n) = refl
  replaced-Var (Atom a) = refl
  replaced-Var (Comp c ts) = ap (Comp c) (all_replaced-Var ts)

  all_replaced-Var : (ts : Terms) → all_replaced Var ts ≡ ts
  all_replaced-Var NoMore = refl
  all_replaced-Var (More t ts) = ap (λ u. More u (all_replaced Var ts)) (replaced-Var t) ∙ ap (More t) (all_replaced-Var ts)

mutual
  -- one replacement behind another is one replacement
  pub replaced-twice : (f g : ℕ → Term) (t : Term) → replaced f (replaced g t) ≡ replaced (λ v. replaced f (g v)) t
  replaced-twice f g (Var v) = refl
  replaced-twice f g (Int n) = refl
  replaced-twice f g (Atom a) = refl
  replaced-twice f g (Comp c ts) = ap (Comp c) (all_replaced-twice f g ts)

  all_replaced-twice : (f g : ℕ → Term) (ts : Terms) → all_replaced f (all_replaced g ts) ≡ all_replaced (λ v. replaced f (g v)) ts
  all_replaced-twice f g NoMore = refl
  all_replaced-twice f g (More t ts) =
      ap (λ u. More u (all_replaced f (all_replaced g ts))) (replaced-twice f g t)
      ∙ ap (More (replaced (λ v. replaced f (g v)) t)) (all_replaced-twice f g ts)

-- a variable of the new term comes from a variable of the old one
pub record From (f : ℕ → Term) (w u : ℕ) (old : Bool) : Type 0 where
  pub there : old ≡ true
  pub comes : occurs w (f u) ≡ true

mutual
  occurs-replaced : (f : ℕ → Term) (w : ℕ) (t : Term) → occurs w (replaced f t) ≡ true → (u : ℕ) × From f w u (occurs u t)
  occurs-replaced f w (Var v) o = (v, record { there = same v; comes = o })
    where
      same : (n : ℕ) → nat_eq n n ≡ true
      same n = grind arith
  occurs-replaced f w (Int n) o = absurd (cc)
  occurs-replaced f w (Atom a) o = absurd (cc)
  occurs-replaced f w (Comp c ts) o = occurs-all_replaced f w ts o

  occurs-all_replaced : (f : ℕ → Term) (w : ℕ) (ts : Terms) → occurs_in w (all_replaced f ts) ≡ true → (u : ℕ) × From f w u (occurs_in u ts)
  occurs-all_replaced f w NoMore o = absurd (cc)
  occurs-all_replaced f w (More t ts) o =
      elim (or_either (occurs w (replaced f t)) (occurs_in w (all_replaced f ts)) o) [
        | inl h ↦ let r = occurs-replaced f w t h in (r.0, record { there = or_left (occurs r.0 t) (occurs_in r.0 ts) r.1.there; comes = r.1.comes })
        | inr h ↦ let r = occurs-all_replaced f w ts h in (r.0, record { there = or_right (occurs r.0 t) (occurs_in r.0 ts) r.1.there; comes = r.1.comes })
      ]

-- ---- replacing again and again

-- a replacement so many times
unfoldable pub times : (ℕ → Term) → ℕ → Term → Term
times s zero t = t
times s (suc n) t = times s n (replaced s t)

-- replacing so many times replaces each variable by what becomes of it
pub times-each : (s : ℕ → Term) (n : ℕ) (t : Term) → times s n t ≡ replaced (λ v. times s n (Var v)) t
unfolding times
times-each s zero t = sym (replaced-Var t)
times-each s (suc n) t =
    times-each s n (replaced s t)
    ∙ replaced-twice (λ v. times s n (Var v)) s t
    ∙ replaced-agree (λ v. replaced (λ u. times s n (Var u)) (s v)) (λ v. times s n (s v)) t (λ v o. sym (times-each s n (s v)))

pub times-after : (s : ℕ → Term) (n : ℕ) (t : Term) → times s n (replaced s t) ≡ replaced s (times s n t)
unfolding times
times-after s zero t = refl
times-after s (suc n) t = times-after s n (replaced s t)

pub times-suc : (s : ℕ → Term) (n : ℕ) (t : Term) → times s (suc n) t ≡ times s n (replaced s t)
unfolding times
times-suc s n t = refl

times-free : (s : ℕ → Term) (n v : ℕ) → s v ≡ Var v → times s n (Var v) ≡ Var v
unfolding times
times-free s zero v e = refl
times-free s (suc n) v e = ap (times s n) e ∙ times-free s n v e

-- ---- the bindings of variables that weren't met

abbrev with_met : ℕ → (ℕ → Bool) → ℕ → Bool
with_met v met u = nat_eq u v || met u

abbrev one_unless : Bool → ℕ
one_unless true = 0
one_unless false = 1

unfoldable pub unmet : (ℕ → Bool) → Bindings → ℕ
unmet met [] = 0
unmet met (b ∷ bindings) = one_unless (met b.0) + unmet met bindings

one_unless-or : (a b : Bool) → one_unless (a || b) ≤ one_unless b
one_unless-or true true = omega arith
one_unless-or true false = omega arith
one_unless-or false b = omega arith

unmet-more : (v : ℕ) (met : ℕ → Bool) (bindings : Bindings) → unmet (with_met v met) bindings ≤ unmet met bindings
unfolding unmet
unmet-more v met [] = omega arith
unmet-more v met (b ∷ bindings) =
    let h = unmet-more v met bindings in
    let k = one_unless-or (nat_eq b.0 v) (met b.0) in
    omega arith

unmet-less : (v : ℕ) (met : ℕ → Bool) (place : Ref) (bindings : Bindings) → met v ≡ false → bound_in bindings v ≡ Some place → unmet (with_met v met) bindings < unmet met bindings
unfolding unmet
unmet-less v met place [] e h = absurd (cc)
unmet-less v met place (b ∷ bindings) e h = by (λ found. unmet-less v met place bindings e found) (nat_eq b.0 v) refl
  where
    by : (bound_in bindings v ≡ Some place → unmet (with_met v met) bindings < unmet met bindings) → (t : Bool) → nat_eq b.0 v ≡ t → one_unless (nat_eq b.0 v || met b.0) + unmet (with_met v met) bindings < one_unless (met b.0) + unmet met bindings
    by less true same =
        let k = unmet-more v met bindings in
        let new : one_unless (nat_eq b.0 v || met b.0) ≡ 0 = ap (λ t. one_unless (t || met b.0)) same in
        let old : one_unless (met b.0) ≡ 1 = ap (λ n. one_unless (met n)) (eqb-true b.0 v same) ∙ ap one_unless e in
        omega arith
    by less false apart =
        let found : bound_in bindings v ≡ Some place = sym (ap (λ t. if t then Some b.1 else bound_in bindings v) apart) ∙ h in
        let k = less found in
        let new : one_unless (nat_eq b.0 v || met b.0) ≡ one_unless (met b.0) = ap (λ t. one_unless (t || met b.0)) apart in
        omega arith

unmet-none : (bindings : Bindings) → unmet (λ v. false) bindings ≤ length bindings
unfolding unmet
unmet-none [] = omega arith
unmet-none (b ∷ bindings) = let h = unmet-none bindings in omega arith

-- ---- the end

-- no variable of the term is bound
pub record Settled (bindings : Bindings) (t : Term) : Type 0 where
  pub unbound : (w : ℕ) → occurs w t ≡ true → bound_in bindings w ≡ None

-- A replacement that leaves unbound variables alone, and puts at a bound variable what has no other variables than its
-- place shows.
pub record Follows (bindings : Bindings) (cells : List Cell) (s : ℕ → Term) : Type 0 where
  pub free : (v : ℕ) → bound_in bindings v ≡ None → s v ≡ Var v
  pub leads : (v : ℕ) (place : Ref) (w : ℕ) → bound_in bindings v ≡ Some place → occurs w (s v) ≡ true → occurs w (shows [] cells place.at) ≡ true

module _ (bindings : Bindings) (cells : List Cell) (s : ℕ → Term) (fits : Fits bindings cells) (follows : Follows bindings cells s) where
  apart : (met : ℕ → Bool) (v : ℕ) → ((u : ℕ) → met u ≡ true → Leads bindings cells u v) → met v ≡ false
  apart met v led = by (met v) refl
    where
      by : (b : Bool) → met v ≡ b → met v ≡ false
      by true e = absurd (fits.acyclic v (led v e))
      by false e = e

  settles : (n : ℕ) (met : ℕ → Bool) (v : ℕ) → unmet met bindings ≤ n → ((u : ℕ) → met u ≡ true → Leads bindings cells u v) → Settled bindings (times s n (Var v))
  unfolding times
  settles zero met v less led = record { unbound = λ w o. by w o (bound_in bindings v) refl }
    where
      by : (w : ℕ) → occurs w (Var v) ≡ true → (b : Option Ref) → bound_in bindings v ≡ b → bound_in bindings w ≡ None
      by w o None e = ap (bound_in bindings) (eqb-true w v o) ∙ e
      by w o (Some place) e = let h = unmet-less v met place bindings (apart met v led) e in absurd (omega arith)
  settles (suc n) met v less led = record { unbound = λ w o. by (λ u small lead. settles n (with_met v met) u small lead) w o (bound_in bindings v) refl }
    where
      free : (w : ℕ) → occurs w (times s (suc n) (Var v)) ≡ true → bound_in bindings v ≡ None → bound_in bindings w ≡ None
      free w o e =
          let alone : times s n (s v) ≡ Var v = times-free s (suc n) v (follows.free v e) in
          let here : occurs w (Var v) ≡ true = ap (occurs w) (sym alone) ∙ o in
          ap (bound_in bindings) (eqb-true w v here) ∙ e

      by : ((u : ℕ) → unmet (with_met v met) bindings ≤ n → ((x : ℕ) → with_met v met x ≡ true → Leads bindings cells x u) → Settled bindings (times s n (Var u))) → (w : ℕ) → occurs w (times s (suc n) (Var v)) ≡ true → (b : Option Ref) → bound_in bindings v ≡ b → bound_in bindings w ≡ None
      by again w o None e = free w o e
      by again w o (Some place) e =
          let h = unmet-less v met place bindings (apart met v led) e in
          let inside : occurs w (replaced (λ u. times s n (Var u)) (s v)) ≡ true = ap (occurs w) (sym (times-each s n (s v))) ∙ o in
          let r = occurs-replaced (λ u. times s n (Var u)) w (s v) inside in
          let step : LeadsAtOnce bindings cells v r.0 = record { place = place; bound = e; occurring = follows.leads v place r.0 e r.1.there } in
          (again r.0 (omega arith) (λ u m. leads_to u r.0 step m)).unbound w r.1.comes
        where
          leads_to : (u x : ℕ) → LeadsAtOnce bindings cells v x → with_met v met u ≡ true → Leads bindings cells u x
          leads_to u x step m = elim (or_either (nat_eq u v) (met u) m) [
            | inl same ↦ rw (eqb-true u v same) (at_once step)
            | inr old ↦ Leads-trans bindings cells u v x (led u old) (at_once step)
          ]

  -- replacing as often as there are bindings leaves no bound variable
  pub settles-all : (t : Term) → Settled bindings (times s (length bindings) t)
  settles-all t = record {
    unbound = λ w o.
        let inside : occurs w (replaced (λ u. times s (length bindings) (Var u)) t) ≡ true = ap (occurs w) (sym (times-each s (length bindings) t)) ∙ o in
        let r = occurs-replaced (λ u. times s (length bindings) (Var u)) w t inside in
        (settles (length bindings) (λ v. false) r.0 (unmet-none bindings) (λ u m. absurd (cc))).unbound w r.1.comes;
  }

  -- a term without bound variables stays under what leaves unbound variables alone
  pub settled-stays : (t : Term) (f : ℕ → Term) → ((v : ℕ) → bound_in bindings v ≡ None → f v ≡ Var v) → Settled bindings t → replaced f t ≡ t
  settled-stays t f free h = replaced-agree f Var t (λ v o. free v (h.unbound v o)) ∙ replaced-Var t

  -- following once more changes nothing
  pub times-stays : (t : Term) → times s (length bindings) (replaced s t) ≡ times s (length bindings) t
  times-stays t = times-after s (length bindings) t ∙ settled-stays (times s (length bindings) t) s follows.free (settles-all t)

  -- an unbound variable stands for itself
  pub times-unbound : (v : ℕ) → bound_in bindings v ≡ None → times s (length bindings) (Var v) ≡ Var v
  times-unbound v e = times-free s (length bindings) v (follows.free v e)

  -- a bound one for what stands at it
  pub times-bound : (v : ℕ) → times s (length bindings) (Var v) ≡ times s (length bindings) (s v)
  times-bound v = sym (times-stays (Var v))
