-- Lists of which some elements are left out that fail a test: where the test holds first.
use Rattle.std.proofs.Common.{◌≡◌, ℕ, zero, suc, ◌+◌, ◌-◌, ◌<◌, ◌≤◌, Bool, true, false, cond, not, List, [], ◌∷◌, map, drop, filter, slice_get, Option, Some, None, refl, ap, sym, ◌∙◌, arith, if◌then◌else◌}
use Rattle.std.specs.List.{position_from}
use Rattle.std.specs.Option.{option_map, option_map_or}

module _ {A : Type 0} (tried hit : A → Bool) (others : (x : A) → tried x ≡ false → hit x ≡ false) where
  -- where no element that is left passes, none does
  pub none_hits : (i n : ℕ) (xs : List A) → position_from hit i (filter tried xs) ≡ None → position_from hit n xs ≡ None
  none_hits i n [] e = refl
  none_hits i n (x ∷ xs) e = go (tried x) (hit x) refl refl e (λ j. none_hits j (n + 1) xs)
    where
      go : (b h : Bool) → tried x ≡ b → hit x ≡ h → position_from hit i (if b then x ∷ filter tried xs else filter tried xs) ≡ None
          → ((j : ℕ) → position_from hit j (filter tried xs) ≡ None → position_from hit (n + 1) xs ≡ None)
          → cond (hit x) (Some n) (position_from hit (n + 1) xs) ≡ None
      go true true is ih f rest = absurd (let g : Some i ≡ None = sym (ap (λ c. cond c (Some i) (position_from hit (i + 1) (filter tried xs))) ih) ∙ f in cc)
      go true false is ih f rest =
          ap (λ c. cond c (Some n) (position_from hit (n + 1) xs)) ih
          ∙ rest (i + 1) (sym (ap (λ c. cond c (Some i) (position_from hit (i + 1) (filter tried xs))) ih) ∙ f)
      go false h is ih f rest = ap (λ c. cond c (Some n) (position_from hit (n + 1) xs)) (others x is) ∙ rest i f

  -- where an element that is left passes first, it does so among all
  pub record FirstHit (n i k : ℕ) (xs : List A) : Type 0 where
    pub at : ℕ
    pub element : A
    pub more : List A
    pub here : drop at xs ≡ element ∷ more
    pub place : position_from hit n xs ≡ Some (n + at)
    pub later : i ≤ k
    pub left : drop (k - i) (filter tried xs) ≡ element ∷ filter tried more
    pub passes : hit element ≡ true

  pub first_hit : (n i k : ℕ) (xs : List A) → position_from hit i (filter tried xs) ≡ Some k → FirstHit n i k xs
  first_hit n i k [] e = absurd (cc)
  first_hit n i k (x ∷ xs) e = go (tried x) (hit x) refl refl e (λ j f. first_hit (n + 1) j k xs f)
    where
      deeper : (j : ℕ) → hit x ≡ false → i ≤ j → (e : drop (k - i) (filter tried (x ∷ xs)) ≡ drop (k - j) (filter tried xs)) → FirstHit (n + 1) j k xs → FirstHit n i k (x ∷ xs)
      deeper j miss le same f =
          let up = f.later in
          record {
            at = suc f.at;
            element = f.element;
            more = f.more;
            here = f.here;
            place = ap (λ c. cond c (Some n) (position_from hit (n + 1) xs)) miss ∙ f.place ∙ ap Some (let z : n + 1 + f.at ≡ n + suc f.at = omega arith in z);
            later = omega arith;
            left = same ∙ f.left;
            passes = f.passes;
          }

      go : (b h : Bool) → tried x ≡ b → hit x ≡ h → position_from hit i (if b then x ∷ filter tried xs else filter tried xs) ≡ Some k
          → ((j : ℕ) → position_from hit j (filter tried xs) ≡ Some k → FirstHit (n + 1) j k xs) → FirstHit n i k (x ∷ xs)
      go true true is ih f rest =
          let found : Some i ≡ Some k = sym (ap (λ c. cond c (Some i) (position_from hit (i + 1) (filter tried xs))) ih) ∙ f in
          let same : i ≡ k = cc in
          record {
            at = 0;
            element = x;
            more = xs;
            here = refl;
            place = ap (λ c. cond c (Some n) (position_from hit (n + 1) xs)) ih ∙ ap Some (let z : n ≡ n + 0 = omega arith in z);
            later = omega arith;
            left = ap (λ d. drop d (filter tried (x ∷ xs))) (let z : k - i ≡ 0 = omega arith in z) ∙ ap (λ b. if b then x ∷ filter tried xs else filter tried xs) is;
            passes = ih;
          }
      go true false is ih f rest =
          let found = rest (i + 1) (sym (ap (λ c. cond c (Some i) (position_from hit (i + 1) (filter tried xs))) ih) ∙ f) in
          let up : i + 1 ≤ k = found.later in
          deeper (i + 1) ih (omega arith)
          (ap (λ b. drop (k - i) (if b then x ∷ filter tried xs else filter tried xs)) is ∙ ap (λ d. drop d (x ∷ filter tried xs)) (let z : k - i ≡ suc (k - (i + 1)) = omega arith in z))
          found
      go false h is ih f rest =
          deeper i (others x is) (omega arith)
          (ap (λ b. drop (k - i) (if b then x ∷ filter tried xs else filter tried xs)) is)
          (rest i f)

-- a test of what some things stand for
pub position-found : {A B : Type 0} (look : A → Option B) (t : B → Bool) (n : ℕ) (xs : List A) (ys : List B) → map look xs ≡ map Some ys → position_from (λ x. option_map_or t (look x) false) n xs ≡ position_from t n ys
position-found look t n [] [] e = refl
position-found look t n [] (y ∷ ys) e = absurd (cc)
position-found look t n (x ∷ xs) [] e = absurd (cc)
position-found look t n (x ∷ xs) (y ∷ ys) e =
    let here : look x ≡ Some y = cc in
    let rest : map look xs ≡ map Some ys = cc in
    ap (λ o. cond (option_map_or t o false) (Some n) (position_from (λ z. option_map_or t (look z) false) (n + 1) xs)) here
    ∙ ap (λ o. cond (t y) (Some n) o) (position-found look t (n + 1) xs ys rest)

drop-nil : {A : Type 0} (k : ℕ) → ◌≡◌ {A = List A} (drop k []) []
drop-nil zero = refl
drop-nil (suc k) = refl

-- what is behind some places stands for what is behind the others
pub drop-found : {A B : Type 0} (look : A → Option B) (n : ℕ) (xs : List A) (ys : List B) → map look xs ≡ map Some ys → map look (drop n xs) ≡ map Some (drop n ys)
drop-found look zero xs ys e = e
drop-found look (suc n) [] [] e = refl
drop-found look (suc n) [] (y ∷ ys) e = absurd (cc)
drop-found look (suc n) (x ∷ xs) [] e = absurd (cc)
drop-found look (suc n) (x ∷ xs) (y ∷ ys) e = drop-found look n xs ys (let rest : map look xs ≡ map Some ys = cc in rest)

-- an element, and what is behind it
pub here-drop : {A : Type 0} (k : ℕ) (xs : List A) (x : A) (more : List A) → drop k xs ≡ x ∷ more → slice_get xs k ≡ Some x
here-drop k [] x more e = let z : ◌≡◌ {A = List _} [] (x ∷ more) = sym (drop-nil k) ∙ e in absurd (cc)
here-drop zero (y ∷ ys) x more e = cc
here-drop (suc k) (y ∷ ys) x more e = here-drop k ys x more e

pub drop-here : {A : Type 0} (k : ℕ) (xs : List A) (x : A) → slice_get xs k ≡ Some x → drop k xs ≡ x ∷ drop (suc k) xs
drop-here k [] x e = absurd (cc)
drop-here zero (y ∷ ys) x e = let same : y ≡ x = cc in ap (λ z. z ∷ ys) same
drop-here (suc k) (y ∷ ys) x e = drop-here k ys x e

pub drop-next : {A : Type 0} (k : ℕ) (xs : List A) (x : A) (more : List A) → drop k xs ≡ x ∷ more → drop (suc k) xs ≡ more
drop-next k [] x more e = let z : ◌≡◌ {A = List _} [] (x ∷ more) = sym (drop-nil k) ∙ e in absurd (cc)
drop-next zero (y ∷ ys) x more e = cc
drop-next (suc k) (y ∷ ys) x more e = drop-next k ys x more e

-- two tests, in either order
pub filter-swap : {A : Type 0} (p q : A → Bool) (xs : List A) → filter p (filter q xs) ≡ filter q (filter p xs)
filter-swap p q [] = refl
filter-swap p q (x ∷ xs) = go (p x) (q x) refl refl (filter-swap p q xs)
  where
    go : (b d : Bool) → p x ≡ b → q x ≡ d → filter p (filter q xs) ≡ filter q (filter p xs)
        → filter p (if q x then x ∷ filter q xs else filter q xs) ≡ filter q (if p x then x ∷ filter p xs else filter p xs)
    go true true ep eq rest =
        ap (λ c. filter p (if c then x ∷ filter q xs else filter q xs)) eq ∙ ap (λ c. if c then x ∷ filter p (filter q xs) else filter p (filter q xs)) ep ∙ ap (λ l. x ∷ l) rest
        ∙ sym (ap (λ c. if c then x ∷ filter q (filter p xs) else filter q (filter p xs)) eq) ∙ sym (ap (λ c. filter q (if c then x ∷ filter p xs else filter p xs)) ep)
    go true false ep eq rest =
        ap (λ c. filter p (if c then x ∷ filter q xs else filter q xs)) eq ∙ rest
        ∙ sym (ap (λ c. if c then x ∷ filter q (filter p xs) else filter q (filter p xs)) eq) ∙ sym (ap (λ c. filter q (if c then x ∷ filter p xs else filter p xs)) ep)
    go false true ep eq rest =
        ap (λ c. filter p (if c then x ∷ filter q xs else filter q xs)) eq ∙ ap (λ c. if c then x ∷ filter p (filter q xs) else filter p (filter q xs)) ep ∙ rest
        ∙ sym (ap (λ c. filter q (if c then x ∷ filter p xs else filter p xs)) ep)
    go false false ep eq rest =
        ap (λ c. filter p (if c then x ∷ filter q xs else filter q xs)) eq ∙ rest ∙ sym (ap (λ c. filter q (if c then x ∷ filter p xs else filter p xs)) ep)

-- what passes a test up to a place and fails it from there on
pub filter-split : {A : Type 0} (p : A → Bool) (n : ℕ) (xs : List A) → ((k : ℕ) (x : A) → k < n → slice_get xs k ≡ Some x → p x ≡ true) → ((k : ℕ) (x : A) → n ≤ k → slice_get xs k ≡ Some x → p x ≡ false) → drop n xs ≡ filter (λ x. not (p x)) xs
filter-split p n [] front back = drop-nil n
filter-split p zero (x ∷ xs) front back =
    ap (λ l. x ∷ l) (filter-split p 0 xs (λ k y lt e. absurd (omega arith)) (λ k y le e. back (suc k) y (omega arith) e))
    ∙ sym (ap (λ b. if not b then x ∷ filter (λ y. not (p y)) xs else filter (λ y. not (p y)) xs) (back 0 x (omega arith) refl))
filter-split p (suc n) (x ∷ xs) front back =
    filter-split p n xs (λ k y lt e. front (suc k) y (omega arith) e) (λ k y le e. back (suc k) y (omega arith) e)
    ∙ sym (ap (λ b. if not b then x ∷ filter (λ y. not (p y)) xs else filter (λ y. not (p y)) xs) (front 0 x (omega arith) refl))

-- where a list passes first, from a number on and from the next one on
pub position-shift : {A : Type 0} (t : A → Bool) (i j : ℕ) (xs : List A) → j ≡ i + 1 → position_from t j xs ≡ option_map suc (position_from t i xs)
position-shift t i j [] e = refl
position-shift {A} t i j (x ∷ xs) e = go (t x) (position-shift t (i + 1) (j + 1) xs (omega (arith, e)))
  where
    go : (b : Bool) → position_from t (j + 1) xs ≡ option_map suc (position_from t (i + 1) xs) → cond b (Some j) (position_from t (j + 1) xs) ≡ option_map suc (cond b (Some i) (position_from t (i + 1) xs))
    go true ih = ap Some (let z : j ≡ suc i = omega (arith, e) in z)
    go false ih = ih

-- what is behind the first element that is left is left of what is behind some place
pub filter-rest : {A : Type 0} (p : A → Bool) (xs : List A) (x : A) (ys : List A) → x ∷ ys ≡ filter p xs → (n : ℕ) × (ys ≡ filter p (drop n xs))
filter-rest p [] x ys e = absurd (cc)
filter-rest {A} p (z ∷ zs) x ys e = go (p z) e (λ f. filter-rest p zs x ys f)
  where
    go : (b : Bool) → x ∷ ys ≡ (if b then z ∷ filter p zs else filter p zs) → (x ∷ ys ≡ filter p zs → (n : ℕ) × (ys ≡ filter p (drop n zs))) → (n : ℕ) × (ys ≡ filter p (drop n (z ∷ zs)))
    go true f rest = (1, let tail : ys ≡ filter p zs = cc in tail)
    go false f rest = let r = rest f in (suc r.0, r.1)
