-- Two lists of places in text order, as one, are those of a longer list.
use Rattle.std.proofs.Common.{◌≡◌, ℕ, suc, ◌+◌, ◌<◌, ◌≤◌, Bool, true, false, ◌||◌, cond, List, [], ◌∷◌, length, filter, slice_get, Some, refl, sym, ap, subst, ◌∙◌, arith, if◌then◌else◌}
use Rattle.std.specs.List.{AllByRecursion}
use Rattle.std.proofs.lemmas.Bool.{lt-ltb, le-ltb}
use Rattle.tp_terms.specs.declared.cells.Cell.{Cell}
use Rattle.tp_terms.specs.declared.cells.AtomId.{AtomId}
use Rattle.tp_clauses.specs.Candidates.{merged, merged_before}
use Rattle.tp_clauses.specs.Contents.{is_of, places_from}
use Rattle.tp_clauses.specs.declared.base.ClauseId.{ClauseId}
use Rattle.tp_clauses.specs.declared.base.ClauseView.{ClauseView}

-- ---- text order

-- each place is behind those before it
abbrev pub AreRising : List ClauseId → Type 0
AreRising [] = Unit {0}
AreRising (i ∷ is) = AllByRecursion (λ j. i.at < j.at) is × AreRising is

module _ (name : AtomId) (arity : ℕ) (cells : List Cell) where
  places_above : (n at : ℕ) (vs : List ClauseView) → n < at → AllByRecursion (λ j. n < j.at) (places_from name arity cells at vs)
  places_above n at [] l = tt
  places_above n at (v ∷ vs) l = go (is_of name arity cells v) (places_above n (suc at) vs (omega arith))
    where
      go : (b : Bool) → AllByRecursion (λ j. n < j.at) (places_from name arity cells (suc at) vs) → AllByRecursion (λ j. n < j.at) (if b then (record { at = at }) ∷ places_from name arity cells (suc at) vs else places_from name arity cells (suc at) vs)
      go true rest = (l, rest)
      go false rest = rest

  -- the places of a predicate's clauses are in text order
  pub places_rise : (at : ℕ) (vs : List ClauseView) → AreRising (places_from name arity cells at vs)
  places_rise at [] = tt
  places_rise at (v ∷ vs) = go (is_of name arity cells v) (places_rise (suc at) vs)
    where
      go : (b : Bool) → AreRising (places_from name arity cells (suc at) vs) → AreRising (if b then (record { at = at }) ∷ places_from name arity cells (suc at) vs else places_from name arity cells (suc at) vs)
      go true rest = (places_above at (suc at) vs (omega arith), rest)
      go false rest = rest

  places_below : (n at : ℕ) (vs : List ClauseView) → at + length vs ≤ n → AllByRecursion (λ j. j.at < n) (places_from name arity cells at vs)
  places_below n at [] l = tt
  places_below n at (v ∷ vs) l = go (is_of name arity cells v) (places_below n (suc at) vs (omega arith))
    where
      go : (b : Bool) → AllByRecursion (λ j. j.at < n) (places_from name arity cells (suc at) vs) → AllByRecursion (λ j. j.at < n) (if b then (record { at = at }) ∷ places_from name arity cells (suc at) vs else places_from name arity cells (suc at) vs)
      go true rest = (omega arith, rest)
      go false rest = rest

  -- the first of them is the place of a clause
  pub first_within : (vs : List ClauseView) (x : ClauseId) → slice_get (places_from name arity cells 0 vs) 0 ≡ Some x → x.at < length vs
  first_within vs x e = go (places_from name arity cells 0 vs) (places_below (length vs) 0 vs (omega arith)) e
    where
      go : (is : List ClauseId) → AllByRecursion (λ j. j.at < length vs) is → slice_get is 0 ≡ Some x → x.at < length vs
      go [] h e = absurd (cc)
      go (i ∷ is) h e = let same : i ≡ x = cc in subst (λ (j : ClauseId). j.at < length vs) same h.0

-- ---- merging

-- nothing beside a list leaves it
pub merged-none : (xs : List ClauseId) → merged xs [] ≡ xs
merged-none [] = refl
merged-none (a ∷ xs) = ap (λ l. a ∷ l) (merged-none xs)

-- what holds of each element holds of each chosen one
pub still : {X : Type 0} (P : X → Type 0) (p : X → Bool) (xs : List X) → AllByRecursion P xs → AllByRecursion P (filter p xs)
still P p [] h = tt
still P p (x ∷ xs) h = go (p x) (still P p xs h.1)
  where
    go : (b : Bool) → AllByRecursion P (filter p xs) → AllByRecursion P (cond b (x ∷ filter p xs) (filter p xs))
    go true rest = (h.0, rest)
    go false rest = rest

-- what stands before all others comes first
from_first : (i : ClauseId) (more : List ClauseId → List ClauseId) (bs : List ClauseId) → AllByRecursion (λ j. i.at < j.at) bs → merged_before i more bs ≡ i ∷ more bs
from_first i more [] h = refl
from_first i more (b ∷ bs) h = ap (λ t. if t then i ∷ more (b ∷ bs) else b ∷ merged_before i more bs) (lt-ltb i.at b.at h.0)

from_second : (i : ClauseId) (xs bs : List ClauseId) → AllByRecursion (λ j. i.at < j.at) xs → merged xs (i ∷ bs) ≡ i ∷ merged xs bs
from_second i [] bs h = refl
from_second i (a ∷ xs) bs h =
    let l : i.at < a.at = h.0 in
    ap (λ t. if t then a ∷ merged xs (i ∷ bs) else i ∷ merged_before a (merged xs) bs) (le-ltb a.at i.at (omega arith))

module _ (p q : ClauseId → Bool) (apart : (i : ClauseId) → p i ≡ true → q i ≡ false) where
  -- the two lists that two tests choose of a list in text order, where no element passes both
  pub merged-filter : (is : List ClauseId) → AreRising is → merged (filter p is) (filter q is) ≡ filter (λ i. q i || p i) is
  merged-filter [] h = refl
  merged-filter (i ∷ is) h = go (p i) refl (q i) refl (merged-filter is h.1)
    where
      all : List ClauseId
      all = filter (λ j. q j || p j) is

      go : (a : Bool) → p i ≡ a → (b : Bool) → q i ≡ b → merged (filter p is) (filter q is) ≡ all
          → merged (cond (p i) (i ∷ filter p is) (filter p is)) (cond (q i) (i ∷ filter q is) (filter q is)) ≡ cond (q i || p i) (i ∷ all) all
      go true e b f rest =
          let g = apart i e in
          ap (λ x. merged (cond x (i ∷ filter p is) (filter p is)) (cond (q i) (i ∷ filter q is) (filter q is))) e
          ∙ ap (λ y. merged (i ∷ filter p is) (cond y (i ∷ filter q is) (filter q is))) g
          ∙ from_first i (merged (filter p is)) (filter q is) (still (λ j. i.at < j.at) q is h.0)
          ∙ ap (λ l. i ∷ l) rest
          ∙ sym (ap (λ y. cond (y || p i) (i ∷ all) all) g ∙ ap (λ x. cond x (i ∷ all) all) e)
      go false e true f rest =
          ap (λ x. merged (cond x (i ∷ filter p is) (filter p is)) (cond (q i) (i ∷ filter q is) (filter q is))) e
          ∙ ap (λ y. merged (filter p is) (cond y (i ∷ filter q is) (filter q is))) f
          ∙ from_second i (filter p is) (filter q is) (still (λ j. i.at < j.at) p is h.0)
          ∙ ap (λ l. i ∷ l) rest
          ∙ sym (ap (λ y. cond (y || p i) (i ∷ all) all) f)
      go false e false f rest =
          ap (λ x. merged (cond x (i ∷ filter p is) (filter p is)) (cond (q i) (i ∷ filter q is) (filter q is))) e
          ∙ ap (λ y. merged (filter p is) (cond y (i ∷ filter q is) (filter q is))) f
          ∙ rest
          ∙ sym (ap (λ y. cond (y || p i) (i ∷ all) all) f ∙ ap (λ x. cond x (i ∷ all) all) e)
