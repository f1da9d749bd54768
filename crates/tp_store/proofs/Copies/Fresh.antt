-- Copies with new variables.
use Rattle.std.proofs.Common.{◌≡◌, ℕ, zero, suc, ◌+◌, ◌<◌, ◌≤◌, Bool, true, false, cond, nat_eq, ◌||◌, List, [], ◌∷◌, ◌++◌, length, slice_get, Some, refl, ap, sym, subst, ◌∙◌, arith, append-nil, inl, inr}
use Rattle.std.proofs.lemmas.Bool.{eqb-true, eq-eqb}
use Rattle.std.specs.List.{list_any}
use Rattle.tp_terms.specs.declared.cells.Cell.{Cell}
use Rattle.tp_terms.specs.declared.cells.Cell.TheVariants as cell
use Rattle.tp_terms.specs.declared.cells.Ref.{Ref}
use Rattle.tp_terms.specs.Binds.{bound_in}
use Rattle.tp_terms.specs.Shown.{name_at, shows, shown_from, IsNamed, StandsBefore}
use Rattle.tp_terms.specs.Term.{Name, Term, Terms, Var, Int, Atom, Comp, NoMore, More, replaced, all_replaced, occurs, occurs_in}
use Rattle.tp_terms.proofs.Naming.Tables.{slice_get-append}
use Rattle.tp_terms.proofs.Places.Shown.{shown_from-append, AreNamed-cell}
use Rattle.tp_meaning.specs.Copy.{all_variables_after, copy_of, place_in, variables_after, with_variable}
use Rattle.tp_meaning.specs.Subst.{Subst, apply, value_at}
use Rattle.tp_meaning.specs.Valid.{Below, AllBelow}
use Rattle.tp_meaning.proofs.Unification.Solved.{either, or_either, replaced-itself}
use Rattle.tp_store.specs.declared.chains.End.{End}
use Rattle.tp_store.specs.Chain.{IsEnd, MayEndAt}
use Rattle.tp_store.specs.Contents.{Contents, AddsCells, IsStore, IsUnbound, args_seen, seen, seen_cell, subst_of, with_vars}
use Rattle.tp_store.specs.Copy.{IsCopiedAs, args_as, copied_from}
use Rattle.tp_store.specs.Renamed.{AddsTerms, Copies, by_place, renamed_by, renaming}
use Rattle.tp_store.proofs.Bodies.Converted.{seen-later}
use Rattle.tp_store.proofs.Copies.Sources.{stands_by}
use Rattle.tp_store.proofs.Standing.Facts.{bound_within, unbound_above, value-unbound}
use Rattle.tp_store.proofs.Substitution.Kept.{Keeps-adds}

-- ---- the variables of a list have a place there

abbrev Has : List ℕ → ℕ → Type 0
Has vs v = place_in vs v < length vs

has-more : (vs ws : List ℕ) (v : ℕ) → Has vs v → Has (vs ++ ws) v
has-more [] ws v h = absurd (omega arith)
has-more (x ∷ xs) ws v h = go (nat_eq v x) (has-more xs ws v) h
  where
    go : (b : Bool) → (place_in xs v < length xs → place_in (xs ++ ws) v < length (xs ++ ws)) → cond b 0 (suc (place_in xs v)) < suc (length xs) → cond b 0 (suc (place_in (xs ++ ws) v)) < suc (length (xs ++ ws))
    go true r h = omega arith
    go false r h = let k = r (omega arith) in omega arith

has-added : (vs : List ℕ) (v : ℕ) → Has (vs ++ v ∷ []) v
has-added [] v = rw (eq-eqb v v refl) (omega arith)
has-added (x ∷ xs) v = go (nat_eq v x) (has-added xs v)
  where
    go : (b : Bool) → place_in (xs ++ v ∷ []) v < length (xs ++ v ∷ []) → cond b 0 (suc (place_in (xs ++ v ∷ []) v)) < suc (length (xs ++ v ∷ []))
    go true h = omega arith
    go false h = omega arith

has-found : (vs : List ℕ) (v : ℕ) → list_any (nat_eq v) vs ≡ true → Has vs v
has-found [] v h = absurd (cc)
has-found (x ∷ xs) v h = go (nat_eq v x) (has-found xs v) h
  where
    go : (b : Bool) → (list_any (nat_eq v) xs ≡ true → place_in xs v < length xs) → (b || list_any (nat_eq v) xs) ≡ true → cond b 0 (suc (place_in xs v)) < suc (length xs)
    go true r h = omega arith
    go false r h = let k = r h in omega arith

with-keeps : (vs : List ℕ) (w v : ℕ) → Has vs v → Has (with_variable vs w) v
with-keeps vs w v h = go (list_any (nat_eq w) vs)
  where
    go : (b : Bool) → Has (cond b vs (vs ++ w ∷ [])) v
    go true = h
    go false = has-more vs (w ∷ []) v h

with-has : (vs : List ℕ) (v : ℕ) → Has (with_variable vs v) v
with-has vs v = go (list_any (nat_eq v) vs) refl
  where
    go : (b : Bool) → list_any (nat_eq v) vs ≡ b → Has (cond b vs (vs ++ v ∷ [])) v
    go true e = has-found vs v e
    go false e = has-added vs v

mutual
  after-keeps : (vs : List ℕ) (t : Term) (v : ℕ) → Has vs v → Has (variables_after vs t) v
  after-keeps vs (Var w) v h = with-keeps vs w v h
  after-keeps vs (Int z) v h = h
  after-keeps vs (Atom a) v h = h
  after-keeps vs (Comp f ts) v h = all_after-keeps vs ts v h

  all_after-keeps : (vs : List ℕ) (ts : Terms) (v : ℕ) → Has vs v → Has (all_variables_after vs ts) v
  all_after-keeps vs NoMore v h = h
  all_after-keeps vs (More t ts) v h = all_after-keeps (variables_after vs t) ts v (after-keeps vs t v h)

-- a copy has the new variables alone
mutual
  below-copied : (next : ℕ) (ws vs : List ℕ) (t : Term) → ((v : ℕ) → Has (variables_after vs t) v → Has ws v) → Below (next + length ws) (replaced (by_place next ws) t)
  below-copied next ws vs (Var v) h = let k = h v (with-has vs v) in omega arith
  below-copied next ws vs (Int z) h = tt
  below-copied next ws vs (Atom a) h = tt
  below-copied next ws vs (Comp f ts) h = all_below-copied next ws vs ts h

  all_below-copied : (next : ℕ) (ws vs : List ℕ) (ts : Terms) → ((v : ℕ) → Has (all_variables_after vs ts) v → Has ws v) → AllBelow (next + length ws) (all_replaced (by_place next ws) ts)
  all_below-copied next ws vs NoMore h = tt
  all_below-copied next ws vs (More t ts) h = (below-copied next ws vs t (λ v k. h v (all_after-keeps (variables_after vs t) ts v k)), all_below-copied next ws (variables_after vs t) ts h)

-- and these are new
mutual
  from-copied : (next : ℕ) (ws : List ℕ) (w : ℕ) (t : Term) → occurs w (replaced (by_place next ws) t) ≡ true → next ≤ w
  from-copied next ws w (Var v) e = let h : w ≡ next + place_in ws v = eqb-true w (next + place_in ws v) e in omega arith
  from-copied next ws w (Int z) e = absurd (cc)
  from-copied next ws w (Atom a) e = absurd (cc)
  from-copied next ws w (Comp f ts) e = all_from-copied next ws w ts e

  all_from-copied : (next : ℕ) (ws : List ℕ) (w : ℕ) (ts : Terms) → occurs_in w (all_replaced (by_place next ws) ts) ≡ true → next ≤ w
  all_from-copied next ws w NoMore e = absurd (cc)
  all_from-copied next ws w (More t ts) e =
      either (or_either (occurs w (replaced (by_place next ws) t)) (occurs_in w (all_replaced (by_place next ws) ts)) e) (from-copied next ws w t) (all_from-copied next ws w ts)

-- ---- what a place is copied as

module _ (c : Contents) (base : ℕ) (vs : List ℕ) (names : List Name) where
  args-by_place : (first n : ℕ) → all_replaced (by_place base vs) (args_seen names c first n) ≡ args_as (renaming c base vs) names first n
  args-by_place first zero = refl
  args-by_place first (suc n) = ap (More (replaced (by_place base vs) (seen names c first))) (args-by_place (suc first) n)

  cell-by_place : IsStore c → (x : Cell) → IsUnbound c.pairs x → replaced (by_place base vs) (seen_cell names c x) ≡ copied_from (renaming c base vs) names (renamed_by base vs x)
  cell-by_place s (cell.Var v) free = ap (replaced (by_place base vs)) (value-unbound names c v s free)
  cell-by_place s (cell.Int z) free = refl
  cell-by_place s (cell.Atom a) free = refl
  cell-by_place s (cell.Comp f a n) free = ap (Comp (name_at names f.at)) (args-by_place a.at n)

-- The chain of an old place ends at an old place, whatever cells were added.
module _ (c now : Contents) (s : IsStore c) (adds : AddsCells c now) (at : Ref) (lt : at.at < length c.cells) (e : End) (end : IsEnd now e) (met : MayEndAt now at e.place) (same : (names : List Name) → seen_cell names now e.cell ≡ seen names now at.at) where
  end_within : e.place.at < length c.cells
  end_within = by met
    where
      by : MayEndAt now at e.place → e.place.at < length c.cells
      by (inl is) = let k : e.place.at ≡ at.at = ap (λ (r : Ref). r.at) is in omega arith
      by (inr b) = (bound_within c b.0 e.place s (ap (λ ps. bound_in ps b.0) (sym adds.pairs) ∙ b.1)).1

  there : slice_get c.cells e.place.at ≡ Some e.cell
  there = sym (slice_get-append c.cells adds.more e.place.at end_within) ∙ ap (λ cs. slice_get cs e.place.at) (sym adds.cells) ∙ end.cell

  before : StandsBefore (length c.cells) e.cell
  before = let le = end_within in stands_by e.place.at (length c.cells) e.cell (omega arith) end.before

  seen_there : (names : List Name) → seen_cell names c e.cell ≡ seen names c at.at
  seen_there names =
      ap (apply (subst_of names c)) (sym (shown_from-append names c.cells adds.more e.cell before))
      ∙ ap (λ cs. apply (subst_of names c) (shown_from names cs e.cell)) (sym adds.cells)
      ∙ ap (λ (u : Subst). apply u (shown_from names now.cells e.cell)) (sym ((Keeps-adds c now s adds).bindings names))
      ∙ same names ∙ seen-later c now s adds names at.at lt

  free : IsUnbound c.pairs e.cell
  free = subst (λ ps. IsUnbound ps e.cell) adds.pairs end.unbound

  module _ (base : ℕ) (vs : List ℕ) where
    pub renamed_as : IsCopiedAs c.cells (renaming c base vs) at.at (renamed_by base vs e.cell)
    renamed_as = record {
      same = λ names. ap (replaced (by_place base vs)) (sym (seen_there names)) ∙ cell-by_place c base vs names s e.cell free;
      within = on e.cell before;
      named = λ n h. named n e.cell (AreNamed-cell n c.cells e.place.at e.cell h there);
    }
      where
        on : (y : Cell) → StandsBefore (length c.cells) y → StandsBefore (length c.cells) (renamed_by base vs y)
        on (cell.Var v) h = h
        on (cell.Int z) h = h
        on (cell.Atom a) h = h
        on (cell.Comp f a n) h = h

        named : (n : ℕ) (y : Cell) → IsNamed n y → IsNamed n (renamed_by base vs y)
        named n (cell.Var v) h = h
        named n (cell.Int z) h = h
        named n (cell.Atom a) h = h
        named n (cell.Comp f a m) h = h

    -- a variable that is met is one of the list
    pub renamed_known : base + length vs ≡ now.vars → Below now.vars (renaming c base vs [] at.at) → (v : ℕ) → e.cell ≡ cell.Var v → place_in vs v < length vs
    renamed_known claimed below v is =
        let k : base + place_in vs v < now.vars = subst (Below now.vars) ((renamed_as).same [] ∙ ap (λ x. copied_from (renaming c base vs) [] (renamed_by base vs x)) is) below in
        omega arith

-- ---- the whole copy

module _ (old claimed : Contents) (root : Ref) (n base : ℕ) (vs : List ℕ) (vars : claimed ≡ with_vars old n) (first : base ≡ old.vars) (counted : n ≡ length vs) (are : (names : List Name) → vs ≡ variables_after [] (seen names old root.at)) where
  pub claimed_all : base + length vs ≡ claimed.vars
  claimed_all = let e : claimed.vars ≡ old.vars + n = ap (λ (c : Contents). c.vars) vars in omega arith

  -- the copy's variables were claimed
  pub claimed_below : Below claimed.vars (renaming claimed base vs [] root.at)
  claimed_below =
      let t : Term = seen [] old root.at in
      subst (λ k. Below k (renaming claimed base vs [] root.at)) claimed_all
      (subst (λ u. Below (base + length vs) (replaced (by_place base vs) u)) (sym (ap (λ (c : Contents). seen [] c root.at) vars))
      (subst (λ us. Below (base + length us) (replaced (by_place base us) t)) (sym (are []))
      (below-copied base (variables_after [] t) [] t (λ v h. h))))

  module _ (new : Contents) (s : IsStore old) (after : IsStore new) (adds : AddsCells claimed new) where
    pairs_stay : new.pairs ≡ old.pairs
    pairs_stay = adds.pairs ∙ ap (λ (c : Contents). c.pairs) vars

    pub added_terms : AddsTerms old new
    added_terms = record {
      more = adds.more;
      cells = adds.cells ∙ ap (λ (c : Contents). c.cells ++ adds.more) vars;
      pairs = pairs_stay;
      vars = (let e : claimed.vars ≡ old.vars + n = ap (λ (c : Contents). c.vars) vars in omega (arith, adds.vars));
    }

    copied_at : (at : Ref) → ((names : List Name) → shows names new.cells at.at ≡ renaming claimed base vs names root.at) → (names : List Name) → seen names new at.at ≡ (copy_of old.vars (seen names old root.at)).0
    unfolding copy_of
    copied_at at shown names =
        let t : Term = seen names old root.at in
        let ws : List ℕ = variables_after [] t in
        let u : Term = replaced (by_place old.vars ws) t in
        let is : shows names new.cells at.at ≡ u =
        shown names ∙ ap (λ (c : Contents). replaced (by_place base vs) (seen names c root.at)) vars ∙ ap (λ us. replaced (by_place base us) t) (are names) ∙ ap (λ b. replaced (by_place b ws) t) first in
        ap (apply (subst_of names new)) is
        ∙ replaced-itself (value_at (subst_of names new)) u (λ w o.
        value-unbound names new w after (ap (λ ps. bound_in ps w) pairs_stay ∙ unbound_above old w s (from-copied old.vars ws w t o)))

    copied_vars : (names : List Name) → new.vars ≡ old.vars + (copy_of old.vars (seen names old root.at)).1
    unfolding copy_of
    copied_vars names = adds.vars ∙ ap (λ (c : Contents). c.vars) vars ∙ ap (λ k. old.vars + k) (counted ∙ ap length (are names))

    pub copied_root : (at : Ref) → ((names : List Name) → shows names new.cells at.at ≡ renaming claimed base vs names root.at) → Copies old new root at
    copied_root at shown names = record { term = copied_at at shown names; vars = copied_vars names }

-- nothing was added
pub adds_nothing : (old new : Contents) → new ≡ old → AddsTerms old new
adds_nothing old new e = record {
  more = [];
  cells = ap (λ (c : Contents). c.cells) e ∙ sym (append-nil old.cells);
  pairs = ap (λ (c : Contents). c.pairs) e;
  vars = (let v : new.vars ≡ old.vars = ap (λ (c : Contents). c.vars) e in omega arith);
}
