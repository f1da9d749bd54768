-- Names and the number of live processes, when a process comes, goes or changes.
use Rattle.std.proofs.Common.{◌≡◌, ◌∙◌, sym, ap, refl, subst, ◌-◌, take, if◌then◌else◌, ℕ, zero, suc, ◌+◌, ◌≤◌, Bool, true, false, cond, ◌||◌, nat_eq, List, [], ◌∷◌, ◌++◌, length, map, Option, Some, None, IfSome, slice_get, slice_set, position, count_by, arith}
use Rattle.std.specs.List.{AllByRecursion, position_from, list_any}
use Rattle.std.proofs.lemmas.Option.{same_Some}
use Rattle.std.proofs.lemmas.List.{map-append, length-map, take_at}
use Rattle.std.proofs.lemmas.List.Sums.{sum_by-cons}
use Rattle.indexmap.specs.IndexSet.{insert_key}
use Rattle.tp_procs.specs.declared.tree.Node.{Node}
use Rattle.std.proofs.lemmas.Iterator.Adapters.{position_from-zero}
use Rattle.std.proofs.lemmas.Bool.Decides.{nat_tests}
use Rattle.tp_terms.specs.declared.cells.AtomId.{AtomId}
use Rattle.tp_terms.specs.declared.world.Proc.{Proc}
use Rattle.tp_procs.specs.Processes.{is_live, named, names_of, AreDistinct}
use Rattle.tp_procs.specs.Tree.{IsTree, IsIndexed}

-- ---- names

from-map : {X Y : Type 0} (f : X → Y) (t : Y → Bool) (k : ℕ) (xs : List X) → position_from t k (map f xs) ≡ position_from (λ x. t (f x)) k xs
from-map f t k [] = refl
from-map f t k (x ∷ xs) = ap (cond (t (f x)) (Some k)) (from-map f t (k + 1) xs)

-- the process of a name stands where the name stands
pub named-names : (name : AtomId) (ps : List Proc) → position (nat_eq name.at) (names_of ps) ≡ named name ps
named-names name ps =
    position_from-zero (nat_eq name.at) (names_of ps)
    ∙ from-map (λ (p : Proc). p.name.at) (nat_eq name.at) 0 ps
    ∙ sym (position_from-zero (λ (p : Proc). nat_eq name.at p.name.at) ps)

from-none : {X : Type 0} (t : X → Bool) (k : ℕ) (xs : List X) → position_from t k xs ≡ None → AllByRecursion (λ x. t x ≡ false) xs
from-none t k [] e = tt
from-none t k (x ∷ xs) e = go (t x) refl e (from-none t (k + 1) xs)
  where
    go : (b : Bool) → t x ≡ b → cond b (Some k) (position_from t (k + 1) xs) ≡ None → (position_from t (k + 1) xs ≡ None → AllByRecursion (λ y. t y ≡ false) xs) → AllByRecursion (λ y. t y ≡ false) (x ∷ xs)
    go true h e rest = cc
    go false h e rest = (h, rest e)

-- a name that no process has is at none of their places
pub unnamed : (name : AtomId) (ps : List Proc) → named name ps ≡ None → AllByRecursion (λ m. nat_eq name.at m ≡ false) (names_of ps)
unnamed name ps e = from-none (nat_eq name.at) 0 (names_of ps) (sym (position_from-zero (nat_eq name.at) (names_of ps)) ∙ named-names name ps ∙ e)

pub none-any : {X : Type 0} (t : X → Bool) (xs : List X) → AllByRecursion (λ x. t x ≡ false) xs → list_any t xs ≡ false
none-any t [] h = refl
none-any t (x ∷ xs) h = ap (λ b. b || list_any t xs) h.0 ∙ none-any t xs h.1

apart-push : (n m : ℕ) (ns : List ℕ) → AllByRecursion (λ k. nat_eq n k ≡ false) ns → nat_eq m n ≡ false → AllByRecursion (λ k. nat_eq n k ≡ false) (ns ++ m ∷ [])
apart-push n m [] h e = (grind (arith, nat_tests), tt)
apart-push n m (k ∷ ns) h e = (h.0, apart-push n m ns h.1 e)

pub distinct-push : (ns : List ℕ) (n : ℕ) → AreDistinct ns → AllByRecursion (λ m. nat_eq n m ≡ false) ns → AreDistinct (ns ++ n ∷ [])
distinct-push [] n h k = (tt, tt)
distinct-push (m ∷ ns) n h k = (apart-push m n ns h.0 k.0, distinct-push ns n h.1 k.1)

apart-front : (n m : ℕ) (ns : List ℕ) → AllByRecursion (λ k. nat_eq n k ≡ false) (ns ++ m ∷ []) → AllByRecursion (λ k. nat_eq n k ≡ false) ns
apart-front n m [] h = tt
apart-front n m (k ∷ ns) h = (h.0, apart-front n m ns h.1)

pub distinct-front : (ns : List ℕ) (n : ℕ) → AreDistinct (ns ++ n ∷ []) → AreDistinct ns
distinct-front [] n h = tt
distinct-front (m ∷ ns) n h = (apart-front m n ns h.0, distinct-front ns n h.1)

-- a change that leaves the name leaves the names
pub names-set : (ps : List Proc) (i : ℕ) (old new : Proc) → slice_get ps i ≡ Some old → old.name ≡ new.name → names_of (slice_set ps i new) ≡ names_of ps
names-set [] i old new e h = refl
names-set (p ∷ ps) zero old new e h = ap (λ n. n ∷ names_of ps) (ap (λ (a : AtomId). a.at) (sym h) ∙ ap (λ (q : Proc). q.name.at) (sym (same_Some p old e)))
names-set (p ∷ ps) (suc i) old new e h = ap (λ ns. p.name.at ∷ ns) (names-set ps i old new e h)

-- what was changed, changed back
set-back : {X : Type 0} (xs : List X) (i : ℕ) (new old : X) → slice_get xs i ≡ Some old → slice_set (slice_set xs i new) i old ≡ xs
set-back [] i new old e = refl
set-back (x ∷ xs) zero new old e = ap (λ y. y ∷ xs) (sym (same_Some x old e))
set-back (x ∷ xs) (suc i) new old e = ap (λ ys. x ∷ ys) (set-back xs i new old e)

pub all-set-back : {X : Type 0} (xs : List X) (i : ℕ) (new : X) → IfSome (slice_get xs i) (λ old. slice_set (slice_set xs i new) i old ≡ xs)
all-set-back {X} xs i new = go (slice_get xs i) refl
  where
    go : (o : Option X) → slice_get xs i ≡ o → IfSome o (λ old. slice_set (slice_set xs i new) i old ≡ xs)
    go None e = tt
    go (Some old) e = set-back xs i new old e

-- ---- how many pass a test

-- 1 where an element passes
abbrev pub one_if : {X : Type 0} → (X → Bool) → X → ℕ
one_if t x = cond (t x) 1 0

count-more : {X : Type 0} (t : X → Bool) (x : X) (xs : List X) → count_by t (x ∷ xs) ≡ one_if t x + count_by t xs
count-more t x xs = sum_by-cons (one_if t) x xs

pub count-push : {X : Type 0} (t : X → Bool) (xs : List X) (x : X) → count_by t (xs ++ x ∷ []) ≡ count_by t xs + one_if t x
count-push {X} t [] x = omega (arith, count-more t x [])
count-push {X} t (y ∷ xs) x = omega (arith, count-more t y (xs ++ x ∷ []), count-more t y xs, count-push t xs x)

pub count-set : {X : Type 0} (t : X → Bool) (xs : List X) (i : ℕ) (old new : X) → slice_get xs i ≡ Some old → count_by t (slice_set xs i new) + one_if t old ≡ count_by t xs + one_if t new
count-set {X} t [] i old new e = cc
count-set {X} t (x ∷ xs) zero old new e =
    let h : one_if t x ≡ one_if t old = ap (one_if t) (same_Some x old e) in
    omega (arith, count-more t x xs, count-more t new xs)
count-set {X} t (x ∷ xs) (suc i) old new e = omega (arith, count-more t x xs, count-more t x (slice_set xs i new), count-set t xs i old new e)

pub count-has : {X : Type 0} (t : X → Bool) (xs : List X) (i : ℕ) (x : X) → slice_get xs i ≡ Some x → one_if t x ≤ count_by t xs
count-has {X} t [] i x e = cc
count-has {X} t (y ∷ xs) zero x e =
    let h : one_if t y ≡ one_if t x = ap (one_if t) (same_Some y x e) in
    omega (arith, count-more t y xs)
count-has {X} t (y ∷ xs) (suc i) x e = omega (arith, count-more t y xs, count-has t xs i x e)

-- ---- all that is kept beside the processes

pub indexed-set : (ps : List Proc) (names : List ℕ) (ns ms : List Node) (live i : ℕ) (old new : Proc) → IsIndexed ps names ns live → slice_get ps i ≡ Some old → old.name ≡ new.name → IsTree (slice_set ps i new) ms → IsIndexed (slice_set ps i new) names ms (live - one_if is_live old + one_if is_live new)
indexed-set ps names ns ms live i old new kept there name tree =
    let same = names-set ps i old new there name in
    record {
      named = kept.named ∙ sym same;
      distinct = subst AreDistinct (sym same) kept.distinct;
      tree = tree;
      count = omega (arith, kept.count, count-set is_live ps i old new there, count-has is_live ps i old there);
    }

names-push : (ps : List Proc) (p : Proc) → names_of (ps ++ p ∷ []) ≡ names_of ps ++ p.name.at ∷ []
names-push ps p = map-append (λ (q : Proc). q.name.at) ps (p ∷ [])

pub indexed-push : (ps : List Proc) (names : List ℕ) (ns ms : List Node) (live : ℕ) (p : Proc) → IsIndexed ps names ns live → named p.name ps ≡ None → IsTree (ps ++ p ∷ []) ms → IsIndexed (ps ++ p ∷ []) (insert_key nat_eq names p.name.at) ms (live + one_if is_live p)
indexed-push ps names ns ms live p kept free tree =
    let apart = unnamed p.name ps free in
    let absent : list_any (nat_eq p.name.at) names ≡ false = ap (list_any (nat_eq p.name.at)) kept.named ∙ none-any (nat_eq p.name.at) (names_of ps) apart in
    record {
      named = ap (λ b. if b then names else names ++ p.name.at ∷ []) absent ∙ ap (λ l. l ++ p.name.at ∷ []) kept.named ∙ sym (names-push ps p);
      distinct = subst AreDistinct (sym (names-push ps p)) (distinct-push (names_of ps) p.name.at kept.distinct apart);
      tree = tree;
      count = omega (arith, kept.count, count-push is_live ps p);
    }

pub indexed-pop : (ps qs : List Proc) (names : List ℕ) (ns ms : List Node) (live : ℕ) (p : Proc) → IsIndexed qs names ns live → qs ≡ ps ++ p ∷ [] → IsTree ps ms → IsIndexed ps (take (length ps) names) ms (live - one_if is_live p)
indexed-pop ps qs names ns ms live p kept split tree =
    let whole : names ≡ names_of ps ++ p.name.at ∷ [] = kept.named ∙ ap names_of split ∙ names-push ps p in
    let long : length (names_of ps) ≡ length ps = length-map ps (λ (q : Proc). q.name.at) in
    record {
      named = ap (take (length ps)) whole ∙ take_at (names_of ps) (p.name.at ∷ []) (length ps) long;
      distinct = distinct-front (names_of ps) p.name.at (subst AreDistinct (ap names_of split ∙ names-push ps p) kept.distinct);
      tree = tree;
      count = omega (arith, kept.count, ap (count_by is_live) split, count-push is_live ps p);
    }

-- the name of a process that was the last is free
pub free-front : (ps : List Proc) (p : Proc) → AreDistinct (names_of (ps ++ p ∷ [])) → named p.name ps ≡ None
free-front ps p h =
    let apart = apart-last (names_of ps) p.name.at (subst AreDistinct (names-push ps p) h) in
    sym (named-names p.name ps) ∙ position_from-zero (nat_eq p.name.at) (names_of ps) ∙ none-from (nat_eq p.name.at) 0 (names_of ps) apart
  where
    apart-last : (ns : List ℕ) (n : ℕ) → AreDistinct (ns ++ n ∷ []) → AllByRecursion (λ m. nat_eq n m ≡ false) ns
    apart-last [] n h = tt
    apart-last (m ∷ ns) n h = (turned m n ns h.0, apart-last ns n h.1)
      where
        turned : (m n : ℕ) (ns : List ℕ) → AllByRecursion (λ k. nat_eq m k ≡ false) (ns ++ n ∷ []) → nat_eq n m ≡ false
        turned m n [] h = grind (arith, nat_tests, h.0)
        turned m n (k ∷ ns) h = turned m n ns h.1

    none-from : {X : Type 0} (t : X → Bool) (k : ℕ) (xs : List X) → AllByRecursion (λ x. t x ≡ false) xs → position_from t k xs ≡ None
    none-from t k [] h = refl
    none-from t k (x ∷ xs) h = ap (λ b. cond b (Some k) (position_from t (k + 1) xs)) h.0 ∙ none-from t (k + 1) xs h.1
