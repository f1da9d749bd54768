-- Parked processes that are marked one by one.
use Rattle.std.proofs.Common.{◌≡◌, ◌≢◌, ℕ, zero, suc, ◌+◌, ◌<◌, ◌≤◌, List, [], ◌∷◌, ◌++◌, map, take, drop, length, Some, None, option_map, slice_get, slice_set, get_or, refl, ap, sym, ◌∙◌, arith, length-append}
use Rattle.std.proofs.lemmas.List.{take_all, append-nil, length-take-le}
use Rattle.std.proofs.lemmas.Option.{slice_get-map, slice_get-get_or, same_Some}
use Rattle.tp_terms.specs.declared.world.Proc.{Proc}
use Rattle.tp_state.specs.Acts.{mark, mark_others}

-- ---- a list whose elements are replaced from the front on

-- the next element is still the old one
seam-get : {A : Type 0} (k : ℕ) (ys xs : List A) (d : A) → k < length ys → k < length xs → get_or (take k ys ++ drop k xs) k d ≡ get_or xs k d
seam-get zero ys xs d h l = refl
seam-get (suc k) [] xs d h l = absurd (omega arith)
seam-get (suc k) (y ∷ ys) [] d h l = absurd (omega arith)
seam-get (suc k) (y ∷ ys) (x ∷ xs) d h l = seam-get k ys xs d (omega arith) (omega arith)

seam-set : {A : Type 0} (k : ℕ) (ys xs : List A) (y : A) → k < length xs → slice_get ys k ≡ Some y → slice_set (take k ys ++ drop k xs) k y ≡ take (suc k) ys ++ drop (suc k) xs
seam-set zero [] xs y l e = cc
seam-set (suc k) [] xs y l e = cc
seam-set k (z ∷ ys) [] y l e = absurd (omega arith)
seam-set zero (z ∷ ys) (x ∷ xs) y l e = ap (λ a. a ∷ xs) (sym (same_Some z y e))
seam-set (suc k) (z ∷ ys) (x ∷ xs) y l e = ap (λ l. z ∷ l) (seam-set k ys xs y (omega arith) e)

seam-same : {A : Type 0} (k : ℕ) (ys xs : List A) → k < length xs → slice_get ys k ≡ slice_get xs k → take k ys ++ drop k xs ≡ take (suc k) ys ++ drop (suc k) xs
seam-same k ys [] l e = absurd (omega arith)
seam-same zero [] (x ∷ xs) l e = cc
seam-same (suc k) [] (x ∷ xs) l e = absurd (let y = get_or xs k x in let h : None ≡ Some y = e ∙ slice_get-get_or xs k x (omega arith) in cc)
seam-same zero (y ∷ ys) (x ∷ xs) l e = ap (λ a. a ∷ xs) (sym (same_Some y x e))
seam-same (suc k) (y ∷ ys) (x ∷ xs) l e = ap (λ l. y ∷ l) (seam-same k ys xs (omega arith) e)

-- ---- each process is marked, but for one

marked-get : (n k : ℕ) (qs : List Proc) → n ≢ k → slice_get (mark_others n qs) k ≡ option_map mark (slice_get qs k)
marked-get n zero [] h = refl
marked-get n (suc k) [] h = refl
marked-get zero zero (q ∷ qs) h = absurd (h refl)
marked-get zero (suc k) (q ∷ qs) h = slice_get-map mark qs k
marked-get (suc n) zero (q ∷ qs) h = refl
marked-get (suc n) (suc k) (q ∷ qs) h = marked-get n k qs (λ e. h (ap suc e))

own-get : (n : ℕ) (qs : List Proc) → slice_get (mark_others n qs) n ≡ slice_get qs n
own-get zero [] = refl
own-get (suc n) [] = refl
own-get zero (q ∷ qs) = refl
own-get (suc n) (q ∷ qs) = own-get n qs

length-marked : (n : ℕ) (qs : List Proc) → length (mark_others n qs) ≡ length qs
length-marked n [] = refl
length-marked zero (q ∷ qs) = ap suc (row qs)
  where
    row : (qs : List Proc) → length (map mark qs) ≡ length qs
    row [] = refl
    row (q ∷ qs) = ap suc (row qs)
length-marked (suc n) (q ∷ qs) = ap suc (length-marked n qs)

-- so many of the processes are marked as they are to be
module _ (n k : ℕ) (qs now : List Proc) (is : now ≡ take k (mark_others n qs) ++ drop k qs) (lt : k < length qs) where
  next : suc k ≡ k + 1
  next = omega arith

  -- another process is marked
  pub marks-one : (q : Proc) → n ≢ k → q ≡ get_or now k q → slice_set now k (mark q) ≡ take (k + 1) (mark_others n qs) ++ drop (k + 1) qs
  marks-one q h e =
      let here : q ≡ get_or qs k q = e ∙ ap (λ l. get_or l k q) is ∙ seam-get k (mark_others n qs) qs q (omega (arith, length-marked n qs)) lt in
      let there : slice_get (mark_others n qs) k ≡ Some (mark q) = marked-get n k qs h ∙ ap (option_map mark) (slice_get-get_or qs k q lt ∙ ap Some (sym here)) in
      ap (λ l. slice_set l k (mark q)) is ∙ seam-set k (mark_others n qs) qs (mark q) lt there
      ∙ ap (λ j. take j (mark_others n qs) ++ drop j qs) next

  -- the one is left as it is
  pub leaves-one : n ≡ k → now ≡ take (k + 1) (mark_others n qs) ++ drop (k + 1) qs
  leaves-one h =
      is ∙ seam-same k (mark_others n qs) qs lt (ap (slice_get (mark_others n qs)) (sym h) ∙ own-get n qs ∙ ap (slice_get qs) h)
      ∙ ap (λ j. take j (mark_others n qs) ++ drop j qs) next

-- as many processes are there
pub seam-length : (n k : ℕ) (qs now : List Proc) → now ≡ take k (mark_others n qs) ++ drop k qs → k < length qs → k < length now
seam-length n k qs now is lt = omega (arith, ap length is, length-append (take k (mark_others n qs)) (drop k qs), length-take-le k (mark_others n qs) (omega (arith, length-marked n qs)), drops k qs lt)
  where
    drops : (k : ℕ) (qs : List Proc) → k < length qs → 0 < length (drop k qs)
    drops k [] h = absurd (omega arith)
    drops zero (q ∷ qs) h = omega arith
    drops (suc k) (q ∷ qs) h = drops k qs (omega arith)

-- the process that stands there now is marked
pub marks-next : (n k : ℕ) (qs now : List Proc) → now ≡ take k (mark_others n qs) ++ drop k qs → k < length qs → (q : Proc) → n ≢ k → slice_get now k ≡ Some q → slice_set now k (mark q) ≡ take (k + 1) (mark_others n qs) ++ drop (k + 1) qs
marks-next n k qs now is lt q h e = marks-one n k qs now is lt q h (same_Some q (get_or now k q) (sym e ∙ slice_get-get_or now k q (seam-length n k qs now is lt)))

-- all are
pub marks-all : (n k : ℕ) (qs now : List Proc) → now ≡ take k (mark_others n qs) ++ drop k qs → length qs ≤ k → now ≡ mark_others n qs
marks-all n k qs now is le =
    is ∙ ap (λ l. l ++ drop k qs) (take_all k (mark_others n qs) (omega (arith, length-marked n qs)))
    ∙ ap (λ l. mark_others n qs ++ l) (past k qs le) ∙ append-nil (mark_others n qs)
  where
    past : (k : ℕ) (qs : List Proc) → length qs ≤ k → drop k qs ≡ []
    past zero [] h = refl
    past (suc k) [] h = refl
    past zero (q ∷ qs) h = absurd (omega arith)
    past (suc k) (q ∷ qs) h = past k qs (omega arith)
