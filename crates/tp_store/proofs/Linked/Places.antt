-- The places of links, as links are added, changed and cut off.
use Rattle.std.proofs.Common.{◌≡◌, ℕ, zero, suc, ◌+◌, ◌-◌, ◌<◌, List, [], ◌∷◌, ◌++◌, length, map, take, replicate, Option, Some, None, get_or, set, refl, ap, ◌∙◌, arith}
use Rattle.std.proofs.lemmas.List.{drop_all, append-nil}
use Rattle.std.specs.List.{remove}
use Rattle.tp_terms.specs.declared.cells.Ref.{Ref}
use Rattle.tp_store.specs.Trail.{place_of}

-- the place of a link that is read
pub places-at : (links : List ℕ) (n : ℕ) → place_of (get_or links n 0) ≡ get_or (map place_of links) n None
places-at [] n = refl
places-at (l ∷ links) zero = refl
places-at (l ∷ links) (suc n) = places-at links n

-- a link that is written
pub places-set : (links : List ℕ) (n l : ℕ) → map place_of (set links n l) ≡ set (map place_of links) n (place_of l)
places-set [] n l = refl
places-set (k ∷ links) zero l = refl
places-set (k ∷ links) (suc n) l = ap (λ ps. place_of k ∷ ps) (places-set links n l)

-- further variables, that are unbound
pub places-more : (links : List ℕ) (k : ℕ) → map place_of (links ++ replicate k 0) ≡ map place_of links ++ replicate k None
places-more [] zero = refl
places-more [] (suc k) = ap (λ (ps : List (Option Ref)). None ∷ ps) (places-more [] k)
places-more (l ∷ links) k = ap (λ ps. place_of l ∷ ps) (places-more links k)

-- fewer variables
pub places-take : (n : ℕ) (links : List ℕ) → map place_of (take n links) ≡ take n (map place_of links)
places-take zero links = refl
places-take (suc n) [] = refl
places-take (suc n) (l ∷ links) = ap (λ ps. place_of l ∷ ps) (places-take n links)

-- a link to a place
pub place_of-next : (place : Ref) (l : ℕ) → l ≡ place.at + 1 → place_of l ≡ Some place
place_of-next place zero e = absurd (omega arith)
place_of-next place (suc n) e = let same : n ≡ place.at = omega arith in ap (λ (k : ℕ). place_of (suc k)) same

-- no place has the link 0 alone
pub no_place : (l : ℕ) → place_of l ≡ None → l ≡ 0
no_place zero e = refl
no_place (suc n) e = absurd (cc)

-- an element is taken from a list under a map
pub map-remove : {X Y : Type 0} (f : X → Y) (xs : List X) (at : ℕ) → map f (remove xs at) ≡ remove (map f xs) at
map-remove f [] zero = refl
map-remove f [] (suc at) = refl
map-remove f (x ∷ xs) zero = refl
map-remove f (x ∷ xs) (suc at) = ap (λ ys. f x ∷ ys) (map-remove f xs at)

-- the last element is taken
pub remove_last : {X : Type 0} (xs : List X) → 0 < length xs → remove xs (length xs - 1) ≡ take (length xs - 1) xs
remove_last xs some = ap (λ ys. take (length xs - 1) xs ++ ys) (drop_all (suc (length xs - 1)) xs (omega arith)) ∙ append-nil (take (length xs - 1) xs)
