-- First arguments of goals, and the candidates behind one.
use Rattle.std.proofs.Common.{◌≡◌, ℕ, zero, suc, ◌-◌, Bool, true, false, not, nat_le, List, [], ◌∷◌, length, take, drop, filter, slice_index_or, Option, Some, None, refl, ap, sym, subst, ◌∙◌, arith, inl, inr, if◌then◌else◌}
use Rattle.std.specs.Prelude.{IfSome, MatchOption}
use Rattle.std.specs.List.Sorted.{IsPartitionedBy, IsPartitionPoint}
use Rattle.std.proofs.Math.Nat.{eq-or-lt_of_le}
use Rattle.std.proofs.lemmas.Bool.{le-leb, leb-true}
use Rattle.std.proofs.lemmas.Option.{get_or_from_slice_get, slice_get-get_or, slice_get_within}
use Rattle.tp_terms.specs.declared.cells.Cell.{Cell}
use Rattle.tp_terms.specs.declared.cells.Cell.TheVariants as cell
use Rattle.tp_terms.specs.Term.{Name, all_replaced}
use Rattle.tp_terms.specs.Shown.{args_at, IsNamed}
use Rattle.tp_meaning.specs.Subst.{value_at}
use Rattle.tp_meaning.proofs.Unification.Complete.{count-replaced}
use Rattle.tp_store.specs.Contents.{Contents, args_seen, seen, seen_cell, subst_of}
use Rattle.tp_clauses.specs.declared.base.ClauseId.{ClauseId}
use Rattle.tp_clauses.specs.declared.first.FirstArg.{FirstArg}
use Rattle.tp_clauses.specs.Contents as kept
use Rattle.tp_clauses.specs.Contents.{places_of}
use Rattle.tp_clauses.specs.First.{candidates_of, first_arg, first_of_cell, is_indexed, may_match}
use Rattle.tp_clauses.specs.Matching.{BeginWith, IsOf}
use Rattle.tp_clauses.specs.Ranks.{Rises}
use Rattle.tp_clauses.proofs.Clauses.Rising.{places-rise, rises-before, rises-filter}
use Rattle.tp_clauses.proofs.Loading.Whole.{count-args_at}
use Rattle.tp_terms.specs.declared.cells.AtomId.{AtomId}
use Rattle.tp_machine.proofs.Trying.Lists.{filter-split}

-- ---- first arguments

cell-is : (names : List Name) (c : Contents) (x : Cell) → IsNamed (length names) x → IsOf names (first_of_cell (Some x)) (seen_cell names c x)
cell-is names c (cell.Var v) n = tt
cell-is names c (cell.Int z) n = refl
cell-is names c (cell.Atom name) n = (n, refl)
cell-is names c (cell.Comp name first count) n =
    (n, (all_replaced (value_at (subst_of names c)) (args_at names c.cells first.at count), refl, count-replaced (value_at (subst_of names c)) (args_at names c.cells first.at count) ∙ count-args_at names c.cells first.at count))

-- the first of some arguments, by the cell that it shows
pub first-is : (names : List Name) (c : Contents) (first count : ℕ) (x : Cell) (f : FirstArg) → (count ≡ 0 → ⊥) → f ≡ first_of_cell (Some x) → seen_cell names c x ≡ seen names c first → IsNamed (length names) x → BeginWith names f (args_seen names c first count)
first-is names c first zero x f e is same n = absurd (e refl)
first-is names c first (suc k) x f e is same n = subst (λ g. IsOf names g (seen names c first)) (sym is) (subst (IsOf names (first_of_cell (Some x))) same (cell-is names c x n))

-- ---- places in text order

-- candidates are in text order
pub candidates-rise : (name : AtomId) (arity : ℕ) (f : FirstArg) (c : kept.Contents) (ids : List ClauseId) → ids ≡ candidates_of name arity f c → Rises 0 ids
candidates-rise name arity f c ids e = subst (Rises 0) (sym e) (go (is_indexed name arity c))
  where
    go : (b : Bool) → Rises 0 (if b then filter (λ id. may_match f (first_arg c id)) (places_of name arity c) else places_of name arity c)
    go true = rises-filter (λ id. may_match f (first_arg c id)) 0 (places_of name arity c) (places-rise name arity c)
    go false = places-rise name arity c

-- those up to one come first
pub rises-parted : (n : ℕ) (ids : List ClauseId) (bound : ℕ) → Rises n ids → IsPartitionedBy (λ (other : ClauseId). nat_le other.at bound) ids
rises-parted n ids bound h i j d le lt up = elim (eq-or-lt_of_le le) [
  | inl same ↦ subst (λ k. nat_le (slice_index_or ids k d).at bound ≡ true) (sym same) up
  | inr less ↦
      let x = slice_index_or ids i d in
      let y = slice_index_or ids j d in
      let z = rises-before n ids i j x y h (slice_get-get_or ids i d (omega arith)) (slice_get-get_or ids j d lt) less in
      let w = leb-true y.at bound up in
      le-leb x.at bound (omega arith)
]

-- the part from a place to the end is what is behind the place
pub take-rest : {A : Type 0} (n : ℕ) (xs : List A) → take (length xs - n) (drop n xs) ≡ drop n xs
take-rest zero xs = ap (λ k. take k xs) (let z : length xs - 0 ≡ length xs = omega arith in z) ∙ take-all xs
  where
    take-all : {A : Type 0} (ys : List A) → take (length ys) ys ≡ ys
    take-all [] = refl
    take-all (y ∷ ys) = ap (λ zs. y ∷ zs) (take-all ys)
take-rest (suc n) [] = take-none (0 - suc n)
  where
    take-none : {A : Type 0} (k : ℕ) → ◌≡◌ {A = List A} (take k []) []
    take-none zero = refl
    take-none (suc k) = refl
take-rest (suc n) (x ∷ xs) = ap (λ k. take k (drop n xs)) (let z : suc (length xs) - suc n ≡ length xs - n = omega arith in z) ∙ take-rest n xs

-- the places behind one, from where the others end
pub split-behind : (p : ClauseId → Bool) (ids : List ClauseId) (n : ℕ) → IsPartitionPoint (λ y. p y ≡ true) (λ y. p y ≡ false) ids n → take (length ids - n) (drop n ids) ≡ filter (λ y. not (p y)) ids
split-behind p ids n point =
    take-rest n ids
    ∙ filter-split p n ids
    (λ k x lt e. subst (λ y. p y ≡ true) (get_or_from_slice_get ids k x x e) (point.0 k x (omega arith) lt))
    (λ k x le e. subst (λ y. p y ≡ false) (get_or_from_slice_get ids k x x e) (point.1 k x le (slice_get_within ids k x e)))

-- where there is something, it is something of this
pub some-of : {X : Type 0} (N : Type 0) (P Q : X → Type 0) (r : Option X) → MatchOption r N P → ((x : X) → P x → Q x) → IfSome r Q
some-of N P Q None h f = tt
some-of N P Q (Some x) h f = f x h

-- a list of no length is empty
pub no-element : {A : Type 0} (xs : List A) → length xs ≡ 0 → xs ≡ []
no-element [] e = refl
no-element (x ∷ xs) e = absurd (cc)
