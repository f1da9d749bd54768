-- The variables of terms, in order of first occurrence.
use Rattle.std.proofs.Common.{◌≡◌, ℕ, zero, suc, ◌+◌, ◌-◌, ◌<◌, ◌≤◌, cond, nat_eq, nat_lt, List, [], ◌∷◌, ◌++◌, length, reverse, Option, Some, None, refl, ap, sym, subst, ◌∙◌, arith}
use Rattle.std.proofs.lemmas.Bool.{lt-ltb}
use Rattle.std.proofs.lemmas.List.Recursion.{is_position_or_len}
use Rattle.std.specs.List.{position, position_or_len}
use Rattle.tp_terms.specs.declared.cells.AtomId.{AtomId}
use Rattle.tp_terms.specs.declared.cells.Cell.{Cell}
use Rattle.tp_terms.specs.declared.cells.Cell.TheVariants as cell
use Rattle.tp_terms.specs.declared.cells.Ref.{Ref}
use Rattle.tp_terms.specs.Shown.{StandsBefore}
use Rattle.tp_terms.specs.Term.{Name, term_size, terms_size}
use Rattle.tp_meaning.specs.Copy.{all_variables_after, place_in, variables_after, with_variable}
use Rattle.tp_meaning.proofs.Unification.Complete.{has_size}
use Rattle.tp_store.specs.declared.chains.End.{End}
use Rattle.tp_store.specs.Chain.{IsEnd}
use Rattle.tp_store.specs.Contents.{Contents, IsStore, IsUnbound, args_seen, seen, seen_cell}
use Rattle.tp_store.specs.Renamed.{Collects, variables_each}
use Rattle.tp_store.specs.Work.{AreIn, places_from, places_size}
use Rattle.tp_store.proofs.Copies.Rows.{newest_first}
use Rattle.tp_store.proofs.Standing.Facts.{value-unbound}
use Rattle.tp_store.proofs.Unifier.Work.{AreIn-append, AreIn-places_from, places_size-append, places_size-places_from}

-- ---- the place of a variable

place_in-position : (vs : List ℕ) (v : ℕ) → place_in vs v ≡ position_or_len (nat_eq v) vs
place_in-position vs v = is_position_or_len (λ xs. place_in xs v) (nat_eq v) refl (λ x xs. let e : suc (place_in xs v) ≡ 1 + place_in xs v = omega arith in ap (λ n. cond (nat_eq v x) 0 n) e) vs

-- what looking up answers for a variable that is there
pub found-place : (vs : List ℕ) (v : ℕ) (o : Option ℕ) → o ≡ position (nat_eq v) vs → place_in vs v < length vs → o ≡ Some (place_in vs v)
found-place vs v o e lt =
    e ∙ ap (λ n. cond (nat_lt n (length vs)) (Some n) None) (sym (place_in-position vs v))
    ∙ ap (λ b. cond b (Some (place_in vs v)) None) (lt-ltb (place_in vs v) (length vs) lt)

-- ---- places that are still to be looked at

variables_each-append : (names : List Name) (c : Contents) (vs : List ℕ) (rs qs : List Ref) → variables_each names c vs (rs ++ qs) ≡ variables_each names c (variables_each names c vs rs) qs
variables_each-append names c vs [] qs = refl
variables_each-append names c vs (r ∷ rs) qs = variables_each-append names c (variables_after vs (seen names c r.at)) rs qs

variables_each-places_from : (names : List Name) (c : Contents) (vs : List ℕ) (first n : ℕ) → variables_each names c vs (places_from first n) ≡ all_variables_after vs (args_seen names c first n)
variables_each-places_from names c vs first zero = refl
variables_each-places_from names c vs first (suc n) = variables_each-places_from names c (variables_after vs (seen names c first)) (suc first) n

-- a place of the row more, before the others
pub row_pushed : (old mid new : List Ref) (a n k : ℕ) (x : Ref) → k < n → reverse mid ≡ places_from (a + (n - k)) k ++ reverse old → reverse new ≡ x ∷ reverse mid → x.at ≡ a + (n - 1 - k) → reverse new ≡ places_from (a + (n - (k + 1))) (k + 1) ++ reverse old
row_pushed old mid new a n k x lt m e ex =
    let k1 : k + 1 ≡ suc k = omega arith in
    let d : n - 1 - k ≡ n - suc k = omega arith in
    let sa : a + (n - k) ≡ suc (a + (n - suc k)) = omega arith in
    e
    ∙ ap (λ l. x ∷ l) (m ∙ ap (λ i. places_from i k ++ reverse old) sa)
    ∙ ap (λ (i : ℕ). record { at = i } ∷ places_from (suc (a + (n - suc k))) k ++ reverse old) (ex ∙ ap (λ i. a + i) d)
    ∙ ap (λ i. places_from (a + (n - i)) i ++ reverse old) (sym k1)

-- ---- one cell

module _ (c : Contents) where
  -- no further place
  alone : (x : Cell) (old new : List ℕ) (work : List Ref) → ((names : List Name) → new ≡ variables_after old (seen_cell names c x)) → Collects c x old new work work
  alone x old new work e = record { more = []; added = refl; places = tt; smaller = has_size (seen_cell [] c x); same = e }

  pub collects_variable : (x : Cell) (v : ℕ) (old new : List ℕ) (work : List Ref) → IsStore c → IsUnbound c.pairs x → x ≡ cell.Var v → new ≡ with_variable old v → Collects c x old new work work
  collects_variable x v old new work s free is e =
      alone x old new work (λ names.
      e ∙ sym (ap (λ y. variables_after old (seen_cell names c y)) is ∙ ap (variables_after old) (value-unbound names c v s (subst (IsUnbound c.pairs) is free))))

  pub collects_constant : (x : Cell) (old : List ℕ) (work : List Ref) → ((v : ℕ) → x ≡ cell.Var v → ⊥) → ((f : AtomId) (a : Ref) (n : ℕ) → x ≡ cell.Comp f a n → ⊥) → Collects c x old old work work
  collects_constant (cell.Var v) old work f g = absurd (f v refl)
  collects_constant (cell.Int z) old work f g = alone (cell.Int z) old old work (λ names. refl)
  collects_constant (cell.Atom a) old work f g = alone (cell.Atom a) old old work (λ names. refl)
  collects_constant (cell.Comp h a n) old work f g = absurd (g h a n refl)

  pub collects_compound : (e : End) (f : AtomId) (a : Ref) (n : ℕ) (old : List ℕ) (work new : List Ref) → IsEnd c e → e.cell ≡ cell.Comp f a n → reverse new ≡ places_from a.at n ++ reverse work → Collects c e.cell old old work new
  collects_compound e f a n old work new end is added =
      let within : e.place.at < length c.cells = end.place in
      let before = subst (StandsBefore e.place.at) is end.before in
      let room : a.at + n ≤ e.place.at = before.1 in
      record {
        more = places_from a.at n;
        added = added;
        places = AreIn-places_from c.cells a.at n (omega arith);
        smaller =
            (let s : places_size c (places_from a.at n) ≡ terms_size (args_seen [] c a.at n) = places_size-places_from c a.at n in
            let k : term_size (seen_cell [] c e.cell) ≡ 1 + terms_size (args_seen [] c a.at n) = ap (λ x. term_size (seen_cell [] c x)) is in
            omega arith);
        same = λ names. variables_each-places_from names c old a.at n ∙ sym (ap (λ x. variables_after old (seen_cell names c x)) is);
      }

-- ---- one place after another

module _ (c : Contents) (all mid new : List Ref) (at : Ref) (x : Cell) (old vs : List ℕ) (top : all ≡ mid ++ at ∷ []) (same : (names : List Name) → seen_cell names c x ≡ seen names c at.at) (k : Collects c x old vs mid new) where
  pub collects_places : AreIn c.cells (reverse all) → AreIn c.cells (reverse new)
  collects_places h = subst (AreIn c.cells) (sym k.added) (AreIn-append c.cells k.more (reverse mid) k.places (subst (AreIn c.cells) (newest_first all mid at top) h).1)

  pub collects_smaller : places_size c (reverse new) < places_size c (reverse all)
  collects_smaller =
      let n : places_size c (reverse new) ≡ places_size c k.more + places_size c (reverse mid) = ap (places_size c) k.added ∙ places_size-append c k.more (reverse mid) in
      let o : places_size c (reverse all) ≡ term_size (seen [] c at.at) + places_size c (reverse mid) = ap (places_size c) (newest_first all mid at top) in
      let l : term_size (seen_cell [] c x) ≡ term_size (seen [] c at.at) = ap term_size (same []) in
      let m = k.smaller in
      omega arith

  pub collects_same : (names : List Name) → variables_each names c vs (reverse new) ≡ variables_each names c old (reverse all)
  collects_same names =
      ap (variables_each names c vs) k.added ∙ variables_each-append names c vs k.more (reverse mid)
      ∙ ap (λ us. variables_each names c us (reverse mid)) (k.same names ∙ ap (variables_after old) (same names))
      ∙ sym (ap (variables_each names c old) (newest_first all mid at top))
