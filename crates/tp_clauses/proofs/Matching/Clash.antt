-- A clause that doesn't match a goal's first argument has no unifier with the goal.
use Rattle.std.proofs.Common.{◌≡◌, ℕ, zero, suc, ◌+◌, ◌<◌, nat_eq, Bool, true, false, ◌&&◌, List, [], ◌∷◌, ◌++◌, length, slice_get, Some, None, refl, sym, ap, subst, ◌∙◌, arith, if◌then◌else◌}
use Rattle.tp_terms.specs.declared.cells.Cell.{Cell}
use Rattle.tp_terms.specs.declared.cells.Cell.TheVariants as cell
use Rattle.tp_terms.specs.Term.{Name, Term, Terms, Var, Int, Atom, Comp, NoMore, More, count_of, names_eq, replaced, all_replaced, term_size}
use Rattle.tp_terms.specs.Names.{AreDistinct}
use Rattle.tp_terms.specs.Shown.{name_at, shows, shown_from, args_at, StandsBefore, IsNamed, AreBuilt, AreNamed}
use Rattle.tp_terms.proofs.Places.Shown.{shows-cell, AreNamed-cell}
use Rattle.tp_terms.proofs.Naming.Tables.{names_eq-places}
use Rattle.tp_meaning.specs.Subst.{Subst, Equations, Next, mgu, apply, value_at, solve_pair, walk, rounds, size_under, pairs_of}
use Rattle.tp_meaning.specs.Clauses.{renamed}
use Rattle.tp_meaning.proofs.Unification.Complete.{count-replaced}
use Rattle.tp_clauses.specs.Contents.{Contents}
use Rattle.tp_clauses.specs.First.{first_arg, first_of_cell, first_of_head, first_of_view, may_match}
use Rattle.tp_clauses.specs.Matching.{IsOf, HasFirst}
use Rattle.tp_clauses.specs.declared.base.ClauseId.{ClauseId}
use Rattle.tp_clauses.specs.declared.base.ClauseView.{ClauseView}
use Rattle.tp_clauses.specs.declared.first.FirstArg.{FirstArg}
use Rattle.tp_clauses.specs.declared.first.FirstArg.TheVariants as first
use Rattle.tp_clauses.proofs.Taking.Directives.{cell_at}
use Rattle.tp_clauses.proofs.Loading.Whole.{count-args_at}

-- ---- terms that can't be made equal

-- an equation of these two has no solution, whatever comes behind it
abbrev Clash : Term → Term → Type 0
Clash x y = (same next : Next) (es : Equations) (s : Subst) → solve_pair same next x y es s ≡ None

walk_clash : (next : Next) (z : ℕ) (t u : Term) (es : Equations) (s : Subst) → Clash (apply s t) (apply s u) → walk next z ((t, u) ∷ es) s ≡ None
walk_clash next zero t u es s h = refl
walk_clash next (suc z) t u es s h = h (walk next z) next es s

args_clash : (s : Subst) (f g : Name) (t u : Term) (ts us : Terms) → Clash (apply s t) (apply s u) → (next : Next) (z : ℕ) (es : Equations) → solve_pair (walk next z) next (Comp f (More t ts)) (Comp g (More u us)) es s ≡ None
args_clash s f g t u ts us h next z es = go (names_eq f g && nat_eq (count_of (More t ts)) (count_of (More u us)))
  where
    go : (b : Bool) → (if b then walk next z (pairs_of (More t ts) (More u us) ++ es) s else None) ≡ None
    go true = walk_clash next z t u (pairs_of ts us ++ es) s h
    go false = refl

-- compounds whose first arguments can't be made equal have no unifier
mgu_clash : (s : Subst) (goal head : Term) (f g : Name) (t u : Term) (ts us : Terms) → apply s goal ≡ Comp f (More t ts) → apply s head ≡ Comp g (More u us) → Clash (apply s t) (apply s u) → mgu s goal head ≡ None
unfolding mgu
mgu_clash s goal head f g t u ts us eg eh h = by (term_size (apply s goal) + term_size (apply s head))
  where
    step : (next : Next) (z : ℕ) → walk next z ((goal, head) ∷ []) s ≡ None
    step next zero = refl
    step next (suc z) =
        ap (λ x. solve_pair (walk next z) next x (apply s head) [] s) eg
        ∙ ap (λ y. solve_pair (walk next z) next (Comp f (More t ts)) y [] s) eh
        ∙ args_clash s f g t u ts us h next z []

    by : (n : ℕ) → rounds n ((goal, head) ∷ []) s ≡ None
    by zero = step (λ es' s'. None) (size_under s ((goal, head) ∷ []))
    by (suc n) = step (rounds n) (size_under s ((goal, head) ∷ []))

-- ---- principal functors

-- a term keeps its principal functor when its variables are replaced
IsOf-replaced : (names : List Name) (r : ℕ → Term) (f : FirstArg) (t : Term) → IsOf names f t → IsOf names f (replaced r t)
IsOf-replaced names r first.Any t h = tt
IsOf-replaced names r (first.Int value) t h = ap (replaced r) h
IsOf-replaced names r (first.Atom name) t h = (h.0, ap (replaced r) h.1)
IsOf-replaced names r (first.Comp name count) t h = (h.0, (all_replaced r h.1.0, ap (replaced r) h.1.1, count-replaced r h.1.0 ∙ h.1.2))

-- a place shows a term of its cell's principal functor
IsOf-shown : (names : List Name) (cells : List Cell) (at : ℕ) → at < length cells → AreBuilt cells → AreNamed (length names) cells → IsOf names (first_of_cell (slice_get cells at)) (shows names cells at)
IsOf-shown names cells at within built named =
    let c = cell_at cells at within in
    subst (λ o. IsOf names (first_of_cell o) (shows names cells at)) (sym c.1)
    (subst (λ t. IsOf names (first_of_cell (Some c.0)) t) (sym (shows-cell names cells at c.0 c.1 (built at c.0 c.1)))
    (go c.0 (AreNamed-cell (length names) cells at c.0 named c.1)))
  where
    go : (c : Cell) → IsNamed (length names) c → IsOf names (first_of_cell (Some c)) (shown_from names cells c)
    go (cell.Var v) n = tt
    go (cell.Int value) n = refl
    go (cell.Atom name) n = (n, refl)
    go (cell.Comp name at count) n = (n, (args_at names cells at.at count, refl, count-args_at names cells at.at count))

differ : (b : Bool) → b ≡ true → b ≡ false → ⊥
differ true e f = cc
differ false e f = cc

any_matches : (f : FirstArg) → may_match f first.Any ≡ true
any_matches first.Any = refl
any_matches (first.Int value) = refl
any_matches (first.Atom name) = refl
any_matches (first.Comp name count) = refl

module _ (names : List Name) (distinct : AreDistinct names) where
  -- terms whose principal functors don't match can't be made equal
  unlike : (f g : FirstArg) (x y : Term) → IsOf names f x → IsOf names g y → may_match f g ≡ false → Clash x y
  unlike first.Any g x y hx hy e same next es s = absurd (cc)
  unlike f first.Any x y hx hy e same next es s = absurd (differ (may_match f first.Any) (any_matches f) e)
  unlike (first.Int m) (first.Int n) x y hx hy e same next es s =
      ap (λ z. solve_pair same next z y es s) hx ∙ ap (λ z. solve_pair same next (Int m) z es s) hy
      ∙ ap (λ b. if b then same es s else None) e
  unlike (first.Int m) (first.Atom b) x y hx hy e same next es s =
      ap (λ z. solve_pair same next z y es s) hx ∙ ap (λ z. solve_pair same next (Int m) z es s) hy.1
  unlike (first.Int m) (first.Comp g n) x y hx hy e same next es s =
      ap (λ z. solve_pair same next z y es s) hx ∙ ap (λ z. solve_pair same next (Int m) z es s) hy.1.1
  unlike (first.Atom a) (first.Int n) x y hx hy e same next es s =
      ap (λ z. solve_pair same next z y es s) hx.1 ∙ ap (λ z. solve_pair same next (Atom (name_at names a.at)) z es s) hy
  unlike (first.Atom a) (first.Atom b) x y hx hy e same next es s =
      ap (λ z. solve_pair same next z y es s) hx.1 ∙ ap (λ z. solve_pair same next (Atom (name_at names a.at)) z es s) hy.1
      ∙ ap (λ b. if b then same es s else None) (names_eq-places names distinct a.at b.at hx.0 hy.0 ∙ e)
  unlike (first.Atom a) (first.Comp g n) x y hx hy e same next es s =
      ap (λ z. solve_pair same next z y es s) hx.1 ∙ ap (λ z. solve_pair same next (Atom (name_at names a.at)) z es s) hy.1.1
  unlike (first.Comp f m) (first.Int n) x y hx hy e same next es s =
      ap (λ z. solve_pair same next z y es s) hx.1.1 ∙ ap (λ z. solve_pair same next (Comp (name_at names f.at) hx.1.0) z es s) hy
  unlike (first.Comp f m) (first.Atom b) x y hx hy e same next es s =
      ap (λ z. solve_pair same next z y es s) hx.1.1 ∙ ap (λ z. solve_pair same next (Comp (name_at names f.at) hx.1.0) z es s) hy.1
  unlike (first.Comp f m) (first.Comp g n) x y hx hy e same next es s =
      ap (λ z. solve_pair same next z y es s) hx.1.1 ∙ ap (λ z. solve_pair same next (Comp (name_at names f.at) hx.1.0) z es s) hy.1.1
      ∙ ap (λ b. if b then same (pairs_of hx.1.0 hy.1.0 ++ es) s else None)
      (ap (λ b. b && nat_eq (count_of hx.1.0) (count_of hy.1.0)) (names_eq-places names distinct f.at g.at hx.0 hy.0)
      ∙ ap (λ k. nat_eq f.at g.at && nat_eq k (count_of hy.1.0)) hx.1.2
      ∙ ap (λ k. nat_eq f.at g.at && nat_eq m k) hy.1.2 ∙ e)

  -- ---- goals and heads

  -- a head with a first argument of one principal functor, and a goal of another
  heads_clash : (f g : FirstArg) (s : Subst) (next : ℕ) (goal head : Term) (name : Name) (h : Term) (hs : Terms) → HasFirst names f (apply s goal) → head ≡ Comp name (More h hs) → IsOf names g h → may_match f g ≡ false → mgu s goal (renamed next head) ≡ None
  heads_clash f g s next goal head name h hs has is of e = go (apply s goal) refl has
    where
      none : (t : Term) → f ≡ first.Any → mgu s goal (renamed next head) ≡ None
      none t a = absurd (differ (may_match f g) (ap (λ x. may_match x g) a) e)

      go : (t : Term) → apply s goal ≡ t → HasFirst names f t → mgu s goal (renamed next head) ≡ None
      go (Var v) eg k = none (Var v) k
      go (Int z) eg k = none (Int z) k
      go (Atom a) eg k = none (Atom a) k
      go (Comp b NoMore) eg k = none (Comp b NoMore) k
      go (Comp b (More t ts)) eg k =
          mgu_clash s goal (renamed next head) b name t (apply s (renamed next h)) ts (all_replaced (value_at s) (all_replaced (λ v. Var (v + next)) hs))
          eg (ap (λ u. apply s (renamed next u)) is)
          (unlike f g (apply s t) (apply s (apply s (renamed next h)))
          (IsOf-replaced names (value_at s) f t k)
          (IsOf-replaced names (value_at s) g (apply s (renamed next h)) (IsOf-replaced names (value_at s) g (renamed next h) (IsOf-replaced names (λ v. Var (v + next)) g h of)))
          e)

  -- A clause whose first argument doesn't match a goal's has no unifier with the goal, whatever
  -- numbers its variables get.
  pub no_unifier : (c : Contents) → AreBuilt c.cells → AreNamed (length names) c.cells → (id : ClauseId) (v : ClauseView) → slice_get c.clauses id.at ≡ Some v → v.head.at < length c.cells
      → (f : FirstArg) (s : Subst) (next : ℕ) (goal : Term) → HasFirst names f (apply s goal) → may_match f (first_arg c id) ≡ false → mgu s goal (renamed next (shows names c.cells v.head.at)) ≡ None
  no_unifier c built named id v here within f s next goal has e =
      let x = cell_at c.cells v.head.at within in
      go x.0 x.1 (built v.head.at x.0 x.1)
      (ap (λ o. may_match f (first_of_head c.cells o)) (sym x.1) ∙ sym (ap (λ o. may_match f (first_of_view c.cells o)) here) ∙ e)
    where
      go : (x : Cell) → slice_get c.cells v.head.at ≡ Some x → StandsBefore v.head.at x → may_match f (first_of_head c.cells (Some x)) ≡ false → mgu s goal (renamed next (shows names c.cells v.head.at)) ≡ None
      go (cell.Var w) is before m = absurd (differ (may_match f first.Any) (any_matches f) m)
      go (cell.Int z) is before m = absurd (differ (may_match f first.Any) (any_matches f) m)
      go (cell.Atom a) is before m = absurd (differ (may_match f first.Any) (any_matches f) m)
      go (cell.Comp name at zero) is before m = absurd (omega (arith, before.0))
      go (cell.Comp name at (suc n)) is before m =
          heads_clash f (first_of_cell (slice_get c.cells at.at)) s next goal (shows names c.cells v.head.at) (name_at names name.at) (shows names c.cells at.at) (args_at names c.cells (suc at.at) n) has
          (shows-cell names c.cells v.head.at (cell.Comp name at (suc n)) is before)
          (IsOf-shown names c.cells at.at (omega (arith, before.1, within)) built named)
          m
