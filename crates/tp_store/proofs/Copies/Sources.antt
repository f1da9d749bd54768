-- What places are copied as.
use Rattle.std.proofs.Common.{◌≡◌, ℕ, zero, suc, ◌+◌, ◌<◌, ◌≤◌, true, List, [], length, slice_get, Some, refl, ap, ◌∙◌, arith}
use Rattle.std.proofs.lemmas.Bool.{eq-eqb}
use Rattle.tp_terms.specs.declared.cells.Cell.{Cell}
use Rattle.tp_terms.specs.declared.cells.Cell.TheVariants as cell
use Rattle.tp_terms.specs.Term.{Name, Term, Terms, Var, Int, Atom, Comp, NoMore, More, all_replaced, occurs, occurs_in, term_size, terms_size}
use Rattle.tp_terms.specs.Shown.{name_at, shows, shown_from, args_at, StandsBefore, IsNamed}
use Rattle.tp_terms.proofs.Places.Shown.{shows-cell, AreNamed-cell}
use Rattle.tp_meaning.specs.Clauses.{renamed}
use Rattle.tp_meaning.specs.Valid.{Below, AllBelow}
use Rattle.tp_meaning.proofs.Unification.Complete.{left, right}
use Rattle.tp_store.specs.Copy.{IsClaimed, IsCopiedAs, IsLast, args_as, copied_from, numbered_on, on_from}

-- a cell that can stand before a place can stand before a later one
pub stands_by : (n m : ℕ) (x : Cell) → n ≤ m → StandsBefore n x → StandsBefore m x
stands_by n m (cell.Var v) le h = tt
stands_by n m (cell.Int value) le h = tt
stands_by n m (cell.Atom name) le h = tt
stands_by n m (cell.Comp name first count) le h = (h.0, let k = h.1 in omega arith)

-- ---- variables numbered on

module _ (base : ℕ) where
  mutual
    size-renamed : (t : Term) → term_size (renamed base t) ≡ term_size t
    size-renamed (Var v) = refl
    size-renamed (Int z) = refl
    size-renamed (Atom a) = refl
    size-renamed (Comp f ts) = ap (λ n. 1 + n) (sizes-renamed ts)

    sizes-renamed : (ts : Terms) → terms_size (all_replaced (λ v. Var (v + base)) ts) ≡ terms_size ts
    sizes-renamed NoMore = refl
    sizes-renamed (More t ts) = ap (λ n. n + terms_size (all_replaced (λ v. Var (v + base)) ts)) (size-renamed t) ∙ ap (λ n. term_size t + n) (sizes-renamed ts)

  mutual
    -- the new numbers are below what each is below
    below-renamed : (vars : ℕ) (t : Term) → ((v : ℕ) → occurs v t ≡ true → v + base < vars) → Below vars (renamed base t)
    below-renamed vars (Var v) h = h v (eq-eqb v v refl)
    below-renamed vars (Int z) h = tt
    below-renamed vars (Atom a) h = tt
    below-renamed vars (Comp f ts) h = all_below-renamed vars ts h

    all_below-renamed : (vars : ℕ) (ts : Terms) → ((v : ℕ) → occurs_in v ts ≡ true → v + base < vars) → AllBelow vars (all_replaced (λ v. Var (v + base)) ts)
    all_below-renamed vars NoMore h = tt
    all_below-renamed vars (More t ts) h =
        (below-renamed vars t (λ v o. h v (left (occurs v t) (occurs_in v ts) o)), all_below-renamed vars ts (λ v o. h v (right (occurs v t) (occurs_in v ts) o)))

  module _ (from : List Cell) where
    pub claimed-below : (at vars : ℕ) → IsClaimed from at base vars → Below vars (on_from from base [] at)
    claimed-below at vars h = below-renamed vars (shows [] from at) h

    args-on : (names : List Name) (first n : ℕ) → all_replaced (λ v. Var (v + base)) (args_at names from first n) ≡ args_as (on_from from base) names first n
    args-on names first zero = refl
    args-on names first (suc n) = ap (More (renamed base (shows names from first))) (args-on names (suc first) n)

    cell-on : (names : List Name) (x : Cell) → renamed base (shown_from names from x) ≡ copied_from (on_from from base) names (numbered_on base x)
    cell-on names (cell.Var v) = refl
    cell-on names (cell.Int value) = refl
    cell-on names (cell.Atom name) = refl
    cell-on names (cell.Comp name first count) = ap (Comp (name_at names name.at)) (args-on names first.at count)

    -- a place is copied as its cell, numbered on
    pub copied_on : (at : ℕ) (x : Cell) → at < length from → slice_get from at ≡ Some x → StandsBefore at x → IsCopiedAs from (on_from from base) at (numbered_on base x)
    copied_on at x lt e before = record {
      same = λ names. ap (renamed base) (shows-cell names from at x e before) ∙ cell-on names x;
      within = on x (stands_by at (length from) x (omega arith) before);
      named = λ n h. named n x (AreNamed-cell n from at x h e);
    }
      where
        on : (y : Cell) → StandsBefore (length from) y → StandsBefore (length from) (numbered_on base y)
        on (cell.Var v) h = h
        on (cell.Int value) h = h
        on (cell.Atom name) h = h
        on (cell.Comp name first count) h = h

        named : (n : ℕ) (y : Cell) → IsNamed n y → IsNamed n (numbered_on base y)
        named n (cell.Var v) h = h
        named n (cell.Int value) h = h
        named n (cell.Atom name) h = h
        named n (cell.Comp name first count) h = h

    -- the cells that are added are no more than the term itself has
    pub last_on : (old new : List Cell) (root at : ℕ) → IsLast old new (on_from from base [] root) at → IsLast old new (shows [] from root) at
    last_on old new root at h = record { last = h.last; few = (let f = h.few in omega (arith, f, size-renamed (shows [] from root))) }
