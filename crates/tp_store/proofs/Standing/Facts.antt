-- What follows from the facts that hold of every store.
use Rattle.std.proofs.Common.{◌≡◌, ℕ, zero, suc, ◌+◌, ◌<◌, ◌≤◌, List, [], ◌∷◌, ◌++◌, length, take, Some, None, slice_get, get_or, refl, ap, sym, subst, ◌∙◌, arith, length-append}
use Rattle.std.proofs.lemmas.Option.{slice_get-get_or}
use Rattle.std.proofs.lemmas.List.{length-take}
use Rattle.std.proofs.Math.Seq.{take-append_seam}
use Rattle.tp_terms.specs.declared.cells.Cell.{Cell}
use Rattle.tp_terms.specs.declared.cells.Cell.TheVariants as cell
use Rattle.tp_terms.specs.declared.cells.Ref.{Ref}
use Rattle.tp_terms.specs.declared.world.StoreMark.{StoreMark}
use Rattle.tp_terms.specs.Term.{Name, Var, count_of}
use Rattle.tp_terms.specs.Shown.{shows, shown_from, args_at, StandsBefore, AreNamed}
use Rattle.tp_terms.specs.Binds.{Bindings, bound_in}
use Rattle.tp_terms.proofs.Places.Shown.{shows-cell, shows-names}
use Rattle.tp_terms.proofs.Naming.Tables.{slice_get-append}
use Rattle.tp_meaning.specs.Subst.{IsSubst, apply, extended, value_at}
use Rattle.tp_meaning.specs.Valid.{Below, AllBelow}
use Rattle.tp_meaning.proofs.Unification.Complete.{count-replaced}
use Rattle.tp_meaning.proofs.Unification.Solved.{unbound}
use Rattle.tp_meaning.proofs.Unification.Under.{Bound, apply-below, extended-below}
use Rattle.tp_store.specs.Contents.{Contents, chained, subst_of, seen, args_seen, AreChained, IsStore, CanGoBack, cut_to_mark}
use Rattle.tp_store.proofs.Substitution.Chained.{IsSubst-chained, unnamed, named, unclaimed}
use Rattle.tp_store.proofs.Substitution.Kept.{slice_get-take}

pub IsSubst-store : (names : List Name) (c : Contents) → IsStore c → IsSubst (subst_of names c)
IsSubst-store names c s = IsSubst-chained names c.cells c.vars c.pairs (s.chain names)

-- ---- bindings

-- a bound variable was claimed, and its place stands
pub bound_within : (c : Contents) (v : ℕ) (place : Ref) → IsStore c → bound_in c.pairs v ≡ Some place → (v < c.vars) × (place.at < length c.cells)
bound_within c v place s e = let t = named [] c.cells c.vars c.pairs v place (s.chain []) e in (t.claimed, t.within)

pub unbound_above : (c : Contents) (v : ℕ) → IsStore c → c.vars ≤ v → bound_in c.pairs v ≡ None
unbound_above c v s le = unclaimed [] c.cells c.vars c.pairs v (s.chain []) le

-- an unbound variable stands for itself, and a bound one for what its place shows under the bindings
pub value-unbound : (names : List Name) (c : Contents) (v : ℕ) → IsStore c → bound_in c.pairs v ≡ None → value_at (subst_of names c) v ≡ Var v
value-unbound names c v s e = unbound v (subst_of names c) (unnamed names c.cells c.vars c.pairs v (s.chain names) e)

pub value-bound : (names : List Name) (c : Contents) (v : ℕ) (place : Ref) → IsStore c → bound_in c.pairs v ≡ Some place → value_at (subst_of names c) v ≡ seen names c place.at
value-bound names c v place s e = (named names c.cells c.vars c.pairs v place (s.chain names) e).value

-- ---- arguments

count-args : (names : List Name) (cells : List Cell) (a n : ℕ) → count_of (args_at names cells a n) ≡ n
count-args names cells a zero = refl
count-args names cells a (suc n) = let h = count-args names cells (suc a) n in omega (arith, h)

-- the number of arguments that are seen
pub count-seen : (names : List Name) (c : Contents) (a n : ℕ) → count_of (args_seen names c a n) ≡ n
count-seen names c a n = count-replaced (value_at (subst_of names c)) (args_at names c.cells a n) ∙ count-args names c.cells a n

-- ---- variables

-- the terms of all places have claimed numbers
below_to : (names : List Name) (c : Contents) → IsStore c → (k at : ℕ) → at < k → at < length c.cells → Below c.vars (shows names c.cells at)
below_to names c s zero at lt within = absurd (omega arith)
below_to names c s (suc k) at lt within =
    let x : Cell = get_or c.cells at (cell.Var 0) in
    let e : slice_get c.cells at ≡ Some x = slice_get-get_or c.cells at (cell.Var 0) within in
    subst (Below c.vars) (sym (shows-cell names c.cells at x e (s.built at x e))) (by_cell x e (s.built at x e) (below_to names c s k))
  where
    row : (first n : ℕ) → first + n ≤ at → ((j : ℕ) → j < k → j < length c.cells → Below c.vars (shows names c.cells j)) → AllBelow c.vars (args_at names c.cells first n)
    row first zero le ih = tt
    row first (suc n) le ih = (ih first (omega arith) (omega arith), row (suc first) n (omega arith) ih)

    by_cell : (x : Cell) → slice_get c.cells at ≡ Some x → StandsBefore at x → ((j : ℕ) → j < k → j < length c.cells → Below c.vars (shows names c.cells j)) → Below c.vars (shown_from names c.cells x)
    by_cell (cell.Var v) e before ih = s.numbered at v e
    by_cell (cell.Int value) e before ih = tt
    by_cell (cell.Atom name) e before ih = tt
    by_cell (cell.Comp name first count) e before ih = row first.at count before.1 ih

pub shows-below : (names : List Name) (c : Contents) (at : ℕ) → IsStore c → at < length c.cells → Below c.vars (shows names c.cells at)
shows-below names c at s within = below_to names c s (suc at) at (omega arith) within

-- the substitution has claimed numbers
chained-below : (names : List Name) (c : Contents) → IsStore c → (pairs : Bindings) → AreChained names c.cells c.vars pairs → Bound c.vars (chained names c.cells pairs)
unfolding chained
chained-below names c s [] h = tt
chained-below names c s (p ∷ pairs) h =
    let b = chained-below names c s pairs h.1 in
    extended-below c.vars p.0 (apply (chained names c.cells pairs) (shows names c.cells p.1.at)) (chained names c.cells pairs) (h.0).claimed
    (apply-below c.vars (chained names c.cells pairs) (shows names c.cells p.1.at) b (shows-below names c p.1.at s (h.0).stands)) b

-- ---- names

-- a longer table of names changes nothing
chained-names : (names more : List Name) (cells : List Cell) → AreNamed (length names) cells → (pairs : Bindings) → chained (names ++ more) cells pairs ≡ chained names cells pairs
unfolding chained
chained-names names more cells h [] = refl
chained-names names more cells h (p ∷ pairs) =
    ap (λ s. extended s p.0 (apply s (shows (names ++ more) cells p.1.at))) (chained-names names more cells h pairs)
    ∙ ap (λ t. extended (chained names cells pairs) p.0 (apply (chained names cells pairs) t)) (shows-names names more cells p.1.at h)

pub subst_of-names : (names more : List Name) (c : Contents) → AreNamed (length names) c.cells → subst_of (names ++ more) c ≡ subst_of names c
subst_of-names names more c h = chained-names names more c.cells h c.pairs

-- ---- the way back

-- A store whose bindings are those of an older one, and which has all that the older one had, can go back to it.
module _ (old now : Contents) (mark : StoreMark) (more : List Cell) (s : IsStore old) (cells : now.cells ≡ old.cells ++ more) (pairs : now.pairs ≡ old.pairs) (vars : old.vars ≤ now.vars)
    (cells_marked : mark.cells ≡ length old.cells) (vars_marked : mark.vars ≡ old.vars) where
  pub can_go_back : CanGoBack now mark
  can_go_back = record {
    cells = omega (arith, cells_marked, ap length cells, length-append old.cells more);
    vars = omega (arith, vars_marked);
    numbers = λ v le. ap (λ ps. bound_in ps v) pairs ∙ unbound_above old v s (omega (arith, vars_marked));
    places = λ v place e. let w = bound_within old v place s (ap (λ ps. bound_in ps v) (sym pairs) ∙ e) in let l = w.1 in omega (arith, cells_marked);
    variables = λ at v lt e.
        let l : at < length old.cells = omega (arith, cells_marked) in
        let n : v < old.vars = s.numbered at v (sym (slice_get-append old.cells more at l) ∙ ap (λ cs. slice_get cs at) (sym cells) ∙ e) in
        omega (arith, vars_marked);
  }

  pub went_back : cut_to_mark now mark ≡ old
  went_back =
      ap (λ n. record { cells = take n now.cells; pairs = now.pairs; vars = mark.vars }) cells_marked
      ∙ ap (λ cs. record { cells = take (length old.cells) cs; pairs = now.pairs; vars = mark.vars }) cells
      ∙ ap (λ cs. record { cells = cs; pairs = now.pairs; vars = mark.vars }) (take-append_seam old.cells more)
      ∙ ap (λ ps. record { cells = old.cells; pairs = ps; vars = mark.vars }) pairs
      ∙ ap (λ n. record { cells = old.cells; pairs = old.pairs; vars = n }) vars_marked

-- A store can go back to a mark of no more than it has, where what is left by that is a store.
pub can-go-back : (c : Contents) (mark : StoreMark) → mark.cells ≤ length c.cells → mark.vars ≤ c.vars → IsStore (cut_to_mark c mark) → CanGoBack c mark
can-go-back c mark cells vars s = record {
  cells = cells;
  vars = vars;
  numbers = λ v le. unbound_above (cut_to_mark c mark) v s le;
  places = λ v place e. let w = bound_within (cut_to_mark c mark) v place s e in let l = w.1 in omega (arith, length-take mark.cells c.cells);
  variables = λ at v lt e. s.numbered at v (slice_get-take mark.cells c.cells at lt ∙ e);
}
