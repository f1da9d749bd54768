-- Cells that are moved behind others show what they showed.
use Rattle.std.proofs.Common.{◌≡◌, ℕ, zero, suc, ◌+◌, ◌-◌, ◌<◌, List, [], ◌∷◌, ◌++◌, length, map, take, Some, slice_get, get_or, refl, sym, ap, ◌∙◌, arith, append_assoc, length-append}
use Rattle.std.proofs.lemmas.List.{take_more, map-append, length-map, length-take-le}
use Rattle.std.proofs.lemmas.Option.{slice_get_within, get_or_from_slice_get}
use Rattle.tp_terms.specs.declared.cells.Cell.{Cell}
use Rattle.tp_terms.specs.declared.cells.Cell.TheVariants as cell
use Rattle.tp_terms.specs.Term.{Name, Term, Atom, Comp, More}
use Rattle.tp_terms.specs.Shown.{name_at, shown_by, terms_from, terms, shows, row_at, IsNamed, AreNamed}
use Rattle.tp_terms.proofs.Places.Shown.{length-terms}
use Rattle.tp_clauses.specs.Moved.{moved}

get_or-behind : {X : Type 0} (xs ys : List X) (i : ℕ) (d : X) → get_or (xs ++ ys) (i + length xs) d ≡ get_or ys i d
get_or-behind [] ys i d = ap (λ n. get_or ys n d) (let e : i + 0 ≡ i = omega arith in e)
get_or-behind (x ∷ xs) ys i d = ap (λ n. get_or (x ∷ (xs ++ ys)) n d) (let e : i + suc (length xs) ≡ suc (i + length xs) = omega arith in e) ∙ get_or-behind xs ys i d

row_at-behind : (us ts : List Term) (first n : ℕ) → row_at (us ++ ts) (first + length us) n ≡ row_at ts first n
row_at-behind us ts first zero = refl
row_at-behind us ts first (suc n) =
    ap (λ t. More t (row_at (us ++ ts) (suc (first + length us)) n)) (get_or-behind us ts first (Atom []))
    ∙ ap (λ k. More (get_or ts first (Atom [])) (row_at (us ++ ts) k n)) (let e : suc (first + length us) ≡ suc first + length us = omega arith in e)
    ∙ ap (More (get_or ts first (Atom []))) (row_at-behind us ts (suc first) n)

module _ (names : List Name) where
  shown_by-moved : (us ts : List Term) (c : Cell) → shown_by names (us ++ ts) (moved (length us) c) ≡ shown_by names ts c
  shown_by-moved us ts (cell.Var number) = refl
  shown_by-moved us ts (cell.Int value) = refl
  shown_by-moved us ts (cell.Atom name) = refl
  shown_by-moved us ts (cell.Comp name first count) = ap (Comp (name_at names name.at)) (row_at-behind us ts first.at count)

  terms_from-moved : (us ts : List Term) (cs : List Cell) → terms_from names (us ++ ts) (map (moved (length us)) cs) ≡ us ++ terms_from names ts cs
  unfolding terms_from
  terms_from-moved us ts [] = refl
  terms_from-moved us ts (c ∷ cs) =
      ap (λ l. terms_from names l (map (moved (length us)) cs)) (append_assoc us ts (shown_by names (us ++ ts) (moved (length us) c) ∷ []) ∙ ap (λ t. us ++ (ts ++ t ∷ [])) (shown_by-moved us ts c))
      ∙ terms_from-moved us (ts ++ shown_by names ts c ∷ []) cs

  terms_from-append : (ts : List Term) (cs ds : List Cell) → terms_from names ts (cs ++ ds) ≡ terms_from names (terms_from names ts cs) ds
  unfolding terms_from
  terms_from-append ts [] ds = refl
  terms_from-append ts (c ∷ cs) ds = terms_from-append (ts ++ shown_by names ts c ∷ []) cs ds

  terms-moved : (cs ds : List Cell) → terms names (cs ++ map (moved (length cs)) ds) ≡ terms names cs ++ terms names ds
  terms-moved cs ds =
      terms_from-append [] cs (map (moved (length cs)) ds)
      ∙ ap (λ n. terms_from names (terms names cs) (map (moved n) ds)) (sym (length-terms names cs))
      ∙ ap (λ l. terms_from names l (map (moved (length (terms names cs))) ds)) (sym (append-none (terms names cs)))
      ∙ terms_from-moved (terms names cs) [] ds
    where
      append-none : (xs : List Term) → xs ++ [] ≡ xs
      append-none [] = refl
      append-none (x ∷ xs) = ap (λ l. x ∷ l) (append-none xs)

  pub shows-moved : (cs ds : List Cell) (at : ℕ) → shows names (cs ++ map (moved (length cs)) ds) (at + length cs) ≡ shows names ds at
  shows-moved cs ds at =
      ap (λ ts. get_or ts (at + length cs) (Atom [])) (terms-moved cs ds)
      ∙ ap (λ n. get_or (terms names cs ++ terms names ds) (at + n) (Atom [])) (sym (length-terms names cs))
      ∙ get_or-behind (terms names cs) (terms names ds) at (Atom [])

IsNamed-moved : (n by : ℕ) (c : Cell) → IsNamed n c → IsNamed n (moved by c)
IsNamed-moved n by (cell.Var number) h = h
IsNamed-moved n by (cell.Int value) h = h
IsNamed-moved n by (cell.Atom name) h = h
IsNamed-moved n by (cell.Comp name first count) h = h

pub AreNamed-moved : (n by : ℕ) (cs : List Cell) → AreNamed n cs → AreNamed n (map (moved by) cs)
AreNamed-moved n by [] h = tt
AreNamed-moved n by (c ∷ cs) h = (IsNamed-moved n by c h.0, AreNamed-moved n by cs h.1)

-- one more cell behind the others
pub append_turn : (old more now new : List Cell) (at by : ℕ) (c : Cell) → now ≡ old ++ map (moved (length old)) (take at more) → slice_get more at ≡ Some c → by ≡ length now - at → new ≡ now ++ moved by c ∷ [] → new ≡ old ++ map (moved (length old)) (take (at + 1) more)
append_turn old more now new at by c so_far here far pushed =
    let within : at < length more = slice_get_within more at c here in
    let long : length now ≡ length old + at = ap length so_far ∙ length-append old (map (moved (length old)) (take at more)) ∙ ap (λ n. length old + n) (length-map (take at more) (moved (length old)) ∙ length-take-le at more (omega arith)) in
    let same : by ≡ length old = omega arith in
    let next : take (at + 1) more ≡ take at more ++ c ∷ [] = take_more more at c within ∙ ap (λ x. take at more ++ x ∷ []) (get_or_from_slice_get more at c c here) in
    pushed ∙ ap (λ l. l ++ moved by c ∷ []) so_far ∙ append_assoc old (map (moved (length old)) (take at more)) (moved by c ∷ [])
    ∙ ap (λ n. old ++ (map (moved (length old)) (take at more) ++ moved n c ∷ [])) same
    ∙ ap (λ l. old ++ l) (sym (ap (map (moved (length old))) next ∙ map-append (moved (length old)) (take at more) (c ∷ [])))
