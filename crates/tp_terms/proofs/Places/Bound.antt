-- When bindings fit some cells.
use Rattle.std.proofs.Common.{◌≡◌, ℕ, zero, suc, ◌<◌, ◌||◌, List, [], ◌∷◌, ◌++◌, length, None, Some, get_or, refl, sym, ap, ◌∙◌, arith, length-append}
use Rattle.tp_terms.specs.declared.cells.Cell.{Cell}
use Rattle.tp_terms.specs.declared.cells.Cell.TheVariants as cell
use Rattle.tp_terms.specs.declared.cells.Ref.{Ref}
use Rattle.tp_terms.specs.Term.{Name, Term, Atom, occurs, occurs_in}
use Rattle.tp_terms.specs.Shown.{shown_by, terms_from, shows, row_at}
use Rattle.tp_terms.specs.Binds.{Bindings, bound_in, LeadsAtOnce, Leads, at_once, over, Fits}
use Rattle.tp_terms.proofs.Places.Shown.{shows-append}

-- the empty map fits any cells
not-at_once : (cells : List Cell) (v w : ℕ) → ¬ (LeadsAtOnce [] cells v w)
not-at_once cells v w leads = let none : None ≡ Some leads.place = leads.bound in cc

not-leads : (cells : List Cell) (v w : ℕ) → ¬ (Leads [] cells v w)
not-leads cells v w (at_once {v = v'} {w = w'} leads) = not-at_once cells v w leads
not-leads cells u w (over {u = u'} {v = v} {w = w'} leads more) = not-at_once cells u v leads

pub Fits-empty : (cells : List Cell) → Fits [] cells
Fits-empty cells = record { within = λ v place e. cc; acyclic = λ v. not-leads cells v v }

-- one way after another
pub Leads-trans : (bindings : Bindings) (cells : List Cell) (u v w : ℕ) → Leads bindings cells u v → Leads bindings cells v w → Leads bindings cells u w
Leads-trans bindings cells u v w (at_once first) more = over first more
Leads-trans bindings cells u v w (over first rest) more = over first (Leads-trans bindings cells _ v w rest more)

-- where each step goes down in an order, no variable leads back to itself
module _ (bindings : Bindings) (cells : List Cell) (Above : ℕ → ℕ → Type 0)
    (trans : (u v w : ℕ) → Above u v → Above v w → Above u w) (step : (v w : ℕ) → LeadsAtOnce bindings cells v w → Above v w) where
  pub Leads-above : (v w : ℕ) → Leads bindings cells v w → Above v w
  Leads-above v w (at_once first) = step v w first
  Leads-above u w (over {v = v} first rest) = trans u v w (step u v first) (Leads-above v w rest)

  pub acyclic-above : ((v : ℕ) → ¬ (Above v v)) → (v : ℕ) → ¬ (Leads bindings cells v v)
  acyclic-above apart v leads = apart v (Leads-above v v leads)

-- which variables occur is no matter of names
module _ (names : List Name) where
  -- two lists of terms in which, place by place, the same variables occur
  Alike : ℕ → List Term → List Term → Type 0
  Alike v ts us = (i : ℕ) → occurs v (get_or ts i (Atom [])) ≡ occurs v (get_or us i (Atom []))

  occurs-row_at : (v : ℕ) (ts us : List Term) → Alike v ts us → (first n : ℕ) → occurs_in v (row_at ts first n) ≡ occurs_in v (row_at us first n)
  unfolding Alike
  occurs-row_at v ts us h first zero = refl
  occurs-row_at v ts us h first (suc n) = ap (λ b. b || occurs_in v (row_at ts (suc first) n)) (h first) ∙ ap (λ b. occurs v (get_or us first (Atom [])) || b) (occurs-row_at v ts us h (suc first) n)

  occurs-shown_by : (v : ℕ) (ts us : List Term) → Alike v ts us → (c : Cell) → occurs v (shown_by names ts c) ≡ occurs v (shown_by [] us c)
  occurs-shown_by v ts us h (cell.Var number) = refl
  occurs-shown_by v ts us h (cell.Int value) = refl
  occurs-shown_by v ts us h (cell.Atom name) = refl
  occurs-shown_by v ts us h (cell.Comp name first count) = occurs-row_at v ts us h first.at count

  alike-push : (v : ℕ) (ts us : List Term) (t u : Term) → length ts ≡ length us → Alike v ts us → occurs v t ≡ occurs v u → Alike v (ts ++ t ∷ []) (us ++ u ∷ [])
  unfolding Alike
  alike-push v [] [] t u long h e zero = e
  alike-push v [] [] t u long h e (suc i) = refl
  alike-push v [] (y ∷ us) t u long h e i = absurd (omega arith)
  alike-push v (x ∷ ts) [] t u long h e i = absurd (omega arith)
  alike-push v (x ∷ ts) (y ∷ us) t u long h e zero = h zero
  alike-push v (x ∷ ts) (y ∷ us) t u long h e (suc i) = alike-push v ts us t u (omega arith) (λ j. h (suc j)) e i

  alike-terms_from : (v : ℕ) (ts us : List Term) (cs : List Cell) → length ts ≡ length us → Alike v ts us → Alike v (terms_from names ts cs) (terms_from [] us cs)
  unfolding terms_from
  alike-terms_from v ts us [] long h = h
  alike-terms_from v ts us (c ∷ cs) long h =
      let t : Term = shown_by names ts c in
      let u : Term = shown_by [] us c in
      alike-terms_from v (ts ++ t ∷ []) (us ++ u ∷ []) cs (omega (arith, length-append ts (t ∷ []), length-append us (u ∷ []))) (alike-push v ts us t u long h (occurs-shown_by v ts us h c))

  alike-none : (v : ℕ) → Alike v [] []
  unfolding Alike
  alike-none v i = refl

  pub occurs-shows : (cells : List Cell) (at v : ℕ) → occurs v (shows names cells at) ≡ occurs v (shows [] cells at)
  unfolding Alike
  occurs-shows cells at v = alike-terms_from v [] [] cells refl (alike-none v) at

-- cells that are added behind the places of the bindings lead nowhere
LeadsAtOnce-append : (bindings : Bindings) (cells more : List Cell) → ((v : ℕ) (place : Ref) → bound_in bindings v ≡ Some place → place.at < length cells) → (v w : ℕ) → LeadsAtOnce bindings (cells ++ more) v w → LeadsAtOnce bindings cells v w
LeadsAtOnce-append bindings cells more within v w leads = record {
  place = leads.place;
  bound = leads.bound;
  occurring = ap (occurs w) (sym (shows-append [] cells more leads.place.at (within v leads.place leads.bound))) ∙ leads.occurring;
}

Leads-append : (bindings : Bindings) (cells more : List Cell) → ((v : ℕ) (place : Ref) → bound_in bindings v ≡ Some place → place.at < length cells) → (v w : ℕ) → Leads bindings (cells ++ more) v w → Leads bindings cells v w
Leads-append bindings cells more within v w (at_once first) = at_once (LeadsAtOnce-append bindings cells more within v w first)
Leads-append bindings cells more within u w (over {v = v} first rest) = over (LeadsAtOnce-append bindings cells more within u v first) (Leads-append bindings cells more within v w rest)

pub Fits-append : (bindings : Bindings) (cells more : List Cell) → Fits bindings cells → Fits bindings (cells ++ more)
Fits-append bindings cells more fits = record {
  within = λ v place e. omega (arith, fits.within v place e, length-append cells more);
  acyclic = λ v leads. fits.acyclic v (Leads-append bindings cells more fits.within v v leads);
}
