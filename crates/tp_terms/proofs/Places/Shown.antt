-- What a place shows: it is kept by whatever is added behind it, and by a longer table of names.
use Rattle.std.proofs.Common.{◌≡◌, ℕ, zero, suc, ◌+◌, ◌<◌, ◌≤◌, List, [], ◌∷◌, ◌++◌, length, Some, slice_get, take, drop, get_or, refl, sym, ap, ◌∙◌, arith, length-append}
use Rattle.std.proofs.lemmas.List.{get_or_append_left, take-append-drop, length-take}
use Rattle.std.proofs.Math.Seq.{get_or-append_seam, drop-cons}
use Rattle.std.proofs.lemmas.Option.{slice_get_within, get_or_from_slice_get}
use Rattle.tp_terms.specs.declared.cells.Cell.{Cell}
use Rattle.tp_terms.specs.declared.cells.Cell.TheVariants as cell
use Rattle.tp_terms.specs.Term.{Name, Term, Atom, Comp, More}
use Rattle.tp_terms.specs.Shown.{name_at, shown_by, terms_from, terms, shows, row_at, args_at, shown_from, StandsBefore, IsNamed, AreNamed}

module _ (names : List Name) where
  terms_from-append : (ts : List Term) (cs ds : List Cell) → terms_from names ts (cs ++ ds) ≡ terms_from names (terms_from names ts cs) ds
  unfolding terms_from
  terms_from-append ts [] ds = refl
  terms_from-append ts (c ∷ cs) ds = terms_from-append (ts ++ shown_by names ts c ∷ []) cs ds

  length-terms_from : (ts : List Term) (cs : List Cell) → length (terms_from names ts cs) ≡ length ts + length cs
  unfolding terms_from
  length-terms_from ts [] = omega arith
  length-terms_from ts (c ∷ cs) = omega (arith, length-terms_from (ts ++ shown_by names ts c ∷ []) cs, length-append ts (shown_by names ts c ∷ []))

  -- the terms that stood still stand
  get_or-terms_from : (ts : List Term) (cs : List Cell) (i : ℕ) (d : Term) → i < length ts → get_or (terms_from names ts cs) i d ≡ get_or ts i d
  unfolding terms_from
  get_or-terms_from ts [] i d h = refl
  get_or-terms_from ts (c ∷ cs) i d h =
      get_or-terms_from (ts ++ shown_by names ts c ∷ []) cs i d (omega (arith, length-append ts (shown_by names ts c ∷ [])))
      ∙ get_or_append_left ts (shown_by names ts c ∷ []) d i h

  -- each cell has one term
  pub length-terms : (cs : List Cell) → length (terms names cs) ≡ length cs
  length-terms cs = omega (arith, length-terms_from [] cs)

  -- a place shows the same when cells are added behind it
  pub shows-append : (cs ds : List Cell) (at : ℕ) → at < length cs → shows names (cs ++ ds) at ≡ shows names cs at
  shows-append cs ds at h =
      ap (λ ts. get_or ts at (Atom [])) (terms_from-append [] cs ds)
      ∙ get_or-terms_from (terms names cs) ds at (Atom []) (omega (arith, length-terms cs))

  -- and when cells behind it are cut off
  pub shows-take : (len : ℕ) (cs : List Cell) (at : ℕ) → len ≤ length cs → at < len → shows names (take len cs) at ≡ shows names cs at
  shows-take len cs at l h =
      sym (shows-append (take len cs) (drop len cs) at (omega (arith, length-take len cs)))
      ∙ ap (λ ds. shows names ds at) (take-append-drop len cs)

  -- what the cell at the seam shows
  shows-seam : (cs : List Cell) (c : Cell) (ds : List Cell) → shows names (cs ++ c ∷ ds) (length cs) ≡ shown_by names (terms names cs) c
  unfolding terms_from
  shows-seam cs c ds =
      let e : length cs ≡ length (terms names cs) = sym (length-terms cs) in
      let t : Term = shown_by names (terms names cs) c in
      ap (λ ts. get_or ts (length cs) (Atom [])) (terms_from-append [] cs (c ∷ ds))
      ∙ get_or-terms_from (terms names cs ++ t ∷ []) ds (length cs) (Atom []) (omega (arith, length-terms cs, length-append (terms names cs) (t ∷ [])))
      ∙ ap (λ n. get_or (terms names cs ++ t ∷ []) n (Atom [])) e
      ∙ get_or-append_seam (terms names cs) t [] (Atom [])

  -- arguments are the same when cells are added behind them
  pub args_at-append : (cs ds : List Cell) (first n : ℕ) → first + n ≤ length cs → args_at names (cs ++ ds) first n ≡ args_at names cs first n
  args_at-append cs ds first zero h = refl
  args_at-append cs ds first (suc n) h =
      let this : shows names (cs ++ ds) first ≡ shows names cs first = shows-append cs ds first (omega arith) in
      ap (λ t. More t (args_at names (cs ++ ds) (suc first) n)) this ∙ ap (More (shows names cs first)) (args_at-append cs ds (suc first) n (omega arith))

  -- and when cells behind them are cut off
  pub args_at-take : (len : ℕ) (cs : List Cell) (first n : ℕ) → len ≤ length cs → first + n ≤ len → args_at names (take len cs) first n ≡ args_at names cs first n
  args_at-take len cs first n l h =
      sym (args_at-append (take len cs) (drop len cs) first n (omega (arith, length-take len cs)))
      ∙ ap (λ ds. args_at names ds first n) (take-append-drop len cs)

  -- so is the term of a cell whose arguments stand
  pub shown_from-append : (cs ds : List Cell) (c : Cell) → StandsBefore (length cs) c → shown_from names (cs ++ ds) c ≡ shown_from names cs c
  shown_from-append cs ds (cell.Var number) h = refl
  shown_from-append cs ds (cell.Int value) h = refl
  shown_from-append cs ds (cell.Atom name) h = refl
  shown_from-append cs ds (cell.Comp name first count) h = ap (Comp (name_at names name.at)) (args_at-append cs ds first.at count h.1)

  pub shown_from-take : (len : ℕ) (cs : List Cell) (c : Cell) → len ≤ length cs → StandsBefore len c → shown_from names (take len cs) c ≡ shown_from names cs c
  shown_from-take len cs (cell.Var number) l h = refl
  shown_from-take len cs (cell.Int value) l h = refl
  shown_from-take len cs (cell.Atom name) l h = refl
  shown_from-take len cs (cell.Comp name first count) l h = ap (Comp (name_at names name.at)) (args_at-take len cs first.at count l h.1)

  row_at-args_at : (cs : List Cell) (first n : ℕ) → row_at (terms names cs) first n ≡ args_at names cs first n
  row_at-args_at cs first zero = refl
  row_at-args_at cs first (suc n) = ap (More (shows names cs first)) (row_at-args_at cs (suc first) n)

  shown_by-shown_from : (cs : List Cell) (c : Cell) → shown_by names (terms names cs) c ≡ shown_from names cs c
  shown_by-shown_from cs (cell.Var number) = refl
  shown_by-shown_from cs (cell.Int value) = refl
  shown_by-shown_from cs (cell.Atom name) = refl
  shown_by-shown_from cs (cell.Comp name first count) = ap (Comp (name_at names name.at)) (row_at-args_at cs first.at count)

  -- what a new last cell shows, by the cells before it
  pub shows-push : (cs : List Cell) (c : Cell) → shows names (cs ++ c ∷ []) (length cs) ≡ shown_from names cs c
  shows-push cs c = shows-seam cs c [] ∙ shown_by-shown_from cs c

  -- what a place shows, by its cell
  pub shows-cell : (cs : List Cell) (at : ℕ) (c : Cell) → slice_get cs at ≡ Some c → StandsBefore at c → shows names cs at ≡ shown_from names cs c
  shows-cell cs at c e before =
      let within : at < length cs = slice_get_within cs at c e in
      let same : get_or cs at c ≡ c = get_or_from_slice_get cs at c c e in
      let parts : take at cs ++ c ∷ drop (suc at) cs ≡ cs = ap (λ d. take at cs ++ d ∷ drop (suc at) cs) (sym same) ∙ ap (λ ds. take at cs ++ ds) (sym (drop-cons cs at c within)) ∙ take-append-drop at cs in
      let long : length (take at cs) ≡ at = omega (arith, length-take at cs) in
      ap (λ ds. shows names ds at) (sym parts)
      ∙ ap (λ n. shows names (take at cs ++ c ∷ drop (suc at) cs) n) (sym long)
      ∙ shows-seam (take at cs) c (drop (suc at) cs)
      ∙ shown_by-shown_from (take at cs) c
      ∙ shown_from-take at cs c (omega arith) before

-- a longer table of names shows no other terms where every atom was in the shorter one
module _ (names more : List Name) where
  shown_by-names : (ts : List Term) (c : Cell) → IsNamed (length names) c → shown_by (names ++ more) ts c ≡ shown_by names ts c
  shown_by-names ts (cell.Var number) h = refl
  shown_by-names ts (cell.Int value) h = refl
  shown_by-names ts (cell.Atom name) h = ap Atom (get_or_append_left names more [] name.at h)
  shown_by-names ts (cell.Comp name first count) h = ap (λ n. Comp n (row_at ts first.at count)) (get_or_append_left names more [] name.at h)

  terms_from-names : (ts : List Term) (cs : List Cell) → AreNamed (length names) cs → terms_from (names ++ more) ts cs ≡ terms_from names ts cs
  unfolding terms_from
  terms_from-names ts [] h = refl
  terms_from-names ts (c ∷ cs) h = ap (λ t. terms_from (names ++ more) (ts ++ t ∷ []) cs) (shown_by-names ts c h.0) ∙ terms_from-names (ts ++ shown_by names ts c ∷ []) cs h.1

  pub shows-names : (cs : List Cell) (at : ℕ) → AreNamed (length names) cs → shows (names ++ more) cs at ≡ shows names cs at
  shows-names cs at h = ap (λ ts. get_or ts at (Atom [])) (terms_from-names [] cs h)

  pub args_at-names : (cs : List Cell) (first n : ℕ) → AreNamed (length names) cs → args_at (names ++ more) cs first n ≡ args_at names cs first n
  args_at-names cs first zero h = refl
  args_at-names cs first (suc n) h =
      ap (λ t. More t (args_at (names ++ more) cs (suc first) n)) (shows-names cs first h) ∙ ap (More (shows names cs first)) (args_at-names cs (suc first) n h)

  pub shown_from-names : (cs : List Cell) (c : Cell) → AreNamed (length names) cs → IsNamed (length names) c → shown_from (names ++ more) cs c ≡ shown_from names cs c
  shown_from-names cs (cell.Var number) h n = refl
  shown_from-names cs (cell.Int value) h n = refl
  shown_from-names cs (cell.Atom name) h n = ap Atom (get_or_append_left names more [] name.at n)
  shown_from-names cs (cell.Comp name first count) h n =
      ap (λ x. Comp x (args_at (names ++ more) cs first.at count)) (get_or_append_left names more [] name.at n)
      ∙ ap (Comp (name_at names name.at)) (args_at-names cs first.at count h)

-- atoms within a table are within a longer one
pub IsNamed-longer : (m n : ℕ) (c : Cell) → m ≤ n → IsNamed m c → IsNamed n c
IsNamed-longer m n (cell.Var number) l h = tt
IsNamed-longer m n (cell.Int value) l h = tt
IsNamed-longer m n (cell.Atom name) l h = omega arith
IsNamed-longer m n (cell.Comp name first count) l h = omega arith

pub AreNamed-longer : (m n : ℕ) (cs : List Cell) → m ≤ n → AreNamed m cs → AreNamed n cs
AreNamed-longer m n [] l h = tt
AreNamed-longer m n (c ∷ cs) l h = (IsNamed-longer m n c l h.0, AreNamed-longer m n cs l h.1)

pub AreNamed-append : (n : ℕ) (cs ds : List Cell) → AreNamed n cs → AreNamed n ds → AreNamed n (cs ++ ds)
AreNamed-append n [] ds h k = k
AreNamed-append n (c ∷ cs) ds h k = (h.0, AreNamed-append n cs ds h.1 k)

pub AreNamed-push : (n : ℕ) (cs : List Cell) (c : Cell) → AreNamed n cs → IsNamed n c → AreNamed n (cs ++ c ∷ [])
AreNamed-push n cs c h k = AreNamed-append n cs (c ∷ []) h (k, tt)

pub AreNamed-take : (n len : ℕ) (cs : List Cell) → AreNamed n cs → AreNamed n (take len cs)
AreNamed-take n zero cs h = tt
AreNamed-take n (suc len) [] h = tt
AreNamed-take n (suc len) (c ∷ cs) h = (h.0, AreNamed-take n len cs h.1)

-- the cell at a place is named as all are
pub AreNamed-cell : (n : ℕ) (cs : List Cell) (at : ℕ) (c : Cell) → AreNamed n cs → slice_get cs at ≡ Some c → IsNamed n c
AreNamed-cell n [] at c h e = cc
AreNamed-cell n (d ∷ cs) zero c h e = let same : d ≡ c = cc in rw (sym same) h.0
AreNamed-cell n (d ∷ cs) (suc at) c h e = AreNamed-cell n cs at c h.1 e
