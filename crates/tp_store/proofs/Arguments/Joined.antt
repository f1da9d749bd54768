-- Goals with further arguments.
use Rattle.std.proofs.Common.{◌≡◌, ℕ, zero, suc, ◌+◌, ◌<◌, ◌≤◌, Bool, true, false, nat_lt, List, [], ◌∷◌, ◌++◌, length, Some, slice_get, Result, Ok, Err, IfOk, OnOk, refl, ap, sym, subst, ◌∙◌, arith, length-append}
use Rattle.std.proofs.lemmas.Bool.{ltb-true, ltb-false}
use Rattle.tp_terms.specs.declared.cells.Cell.{Cell}
use Rattle.tp_terms.specs.declared.cells.Cell.TheVariants as cell
use Rattle.tp_terms.specs.declared.cells.Ref.{Ref}
use Rattle.tp_terms.specs.Shown.{name_at, shows, shown_from, args_at, StandsBefore, IsNamed}
use Rattle.tp_terms.specs.Term.{Name, Term, Terms, Comp, NoMore, More, replaced, all_replaced, joined, term_of, args_of, count_of, with_args}
use Rattle.tp_terms.proofs.Places.Shown.{shows-append, shows-push, shows-cell, AreNamed-cell}
use Rattle.tp_meaning.specs.Subst.{Subst, apply, value_at}
use Rattle.tp_store.specs.declared.chains.End.{End}
use Rattle.tp_store.specs.declared.join.Parts.{Parts}
use Rattle.tp_store.specs.Contents.{Contents, AddsCells, IsStore, IsUnbound, subst_of, seen, seen_cell, args_seen, with_cell}
use Rattle.tp_store.specs.Chain.{IsEnd}
use Rattle.tp_store.specs.Joined.{AddsRow, AreParts, HasRoom, IsCallable, IsGoal, KeepsAtoms, ShowsMore, is_callable}
use Rattle.tp_store.proofs.Bodies.Converted.{adds_none, adds_both, adds_cell, new_cell, named_more}
use Rattle.tp_store.proofs.Standing.Facts.{count-seen, value-unbound}
use Rattle.tp_store.proofs.Substitution.Kept.{Keeps-adds}

-- ---- a row of copied cells

pub row_start : (c : Contents) (first : ℕ) → AddsRow c c first 0
row_start c first = record { adds = adds_none c; longer = omega arith; same = λ names k lt. absurd (omega arith); named = λ n h. h }

-- a cell of the row more
pub row_next : (old now new : Contents) (first k : ℕ) (x : Cell) → AddsRow old now first k → first + k < length old.cells → slice_get now.cells (first + k) ≡ Some x → StandsBefore (first + k) x → new ≡ with_cell now x → AddsRow old new first (k + 1)
row_next old now new first k x h lt is before put = record {
  adds = adds_both old now new h.adds (adds_cell now new x put);
  longer = omega (arith, h.longer, ap length cells, length-append now.cells (x ∷ []));
  same = λ names j le. at names j (nat_lt j k) refl le;
  named = λ n a. let b = h.named n a in named_more n now new x put b (AreNamed-cell n now.cells (first + k) x b is);
}
  where
    cells : new.cells ≡ now.cells ++ x ∷ []
    cells = ap (λ (c : Contents). c.cells) put

    at : (names : List Name) (j : ℕ) (b : Bool) → nat_lt j k ≡ b → j < k + 1 → shows names new.cells (length old.cells + j) ≡ shows names old.cells (first + j)
    at names j true e le =
        let low : j < k = ltb-true j k e in
        ap (λ cs. shows names cs (length old.cells + j)) cells
        ∙ shows-append names now.cells (x ∷ []) (length old.cells + j) (omega (arith, h.longer))
        ∙ h.same names j low
    at names j false e le =
        let high : k ≤ j = ltb-false j k e in
        let last : j ≡ k = omega arith in
        let seam : length old.cells + j ≡ length now.cells = omega (arith, h.longer) in
        ap (λ cs. shows names cs (length old.cells + j)) cells
        ∙ ap (shows names (now.cells ++ x ∷ [])) seam
        ∙ shows-push names now.cells x
        ∙ sym (shows-cell names now.cells (first + k) x is before)
        ∙ ap (λ cs. shows names cs (first + k)) h.adds.cells
        ∙ shows-append names old.cells h.adds.more (first + k) lt
        ∙ ap (λ i. shows names old.cells (first + i)) (sym last)

-- ---- arguments side by side

args_at-same : (names : List Name) (cs ds : List Cell) (a b n : ℕ) → ((k : ℕ) → k < n → shows names cs (a + k) ≡ shows names ds (b + k)) → args_at names cs a n ≡ args_at names ds b n
args_at-same names cs ds a b zero h = refl
args_at-same names cs ds a b (suc n) h =
    let a0 : a ≡ a + 0 = omega arith in
    let b0 : b + 0 ≡ b = omega arith in
    ap (λ t. More t (args_at names cs (suc a) n)) (ap (shows names cs) a0 ∙ h 0 (omega arith) ∙ ap (shows names ds) b0)
    ∙ ap (More (shows names ds b)) (args_at-same names cs ds (suc a) (suc b) n (λ k lt.
    let a1 : suc a + k ≡ a + suc k = omega arith in
    let b1 : b + suc k ≡ suc b + k = omega arith in
    ap (shows names cs) a1 ∙ h (suc k) (omega arith) ∙ ap (shows names ds) b1))

args_at-joined : (names : List Name) (cs : List Cell) (a n m : ℕ) → args_at names cs a (n + m) ≡ joined (args_at names cs a n) (args_at names cs (a + n) m)
args_at-joined names cs a zero m =
    let e : zero + m ≡ m = omega arith in
    let f : a ≡ a + zero = omega arith in
    ap (args_at names cs a) e ∙ ap (λ i. args_at names cs i m) f
args_at-joined names cs a (suc n) m =
    let e : suc n + m ≡ suc (n + m) = omega arith in
    let f : suc a + n ≡ a + suc n = omega arith in
    ap (args_at names cs a) e
    ∙ ap (More (shows names cs a)) (args_at-joined names cs (suc a) n m ∙ ap (λ i. joined (args_at names cs (suc a) n) (args_at names cs i m)) f)

all_replaced-joined : (f : ℕ → Term) (ts us : Terms) → all_replaced f (joined ts us) ≡ joined (all_replaced f ts) (all_replaced f us)
all_replaced-joined f NoMore us = refl
all_replaced-joined f (More t ts) us = ap (More (replaced f t)) (all_replaced-joined f ts us)

-- ---- the goal's own parts

module _ (c : Contents) (s : IsStore c) (goal : Ref) (e : End) (end : IsEnd c e) (same : (names : List Name) → seen_cell names c e.cell ≡ seen names c goal.at) where
  pub goal_cell : IsCallable c goal → IsGoal e.cell
  goal_cell h = by e.cell end.unbound (ap is_callable (same []) ∙ h)
    where
      by : (x : Cell) → IsUnbound c.pairs x → is_callable (seen_cell [] c x) ≡ true → IsGoal x
      by (cell.Var v) free k = let q : false ≡ true = sym (ap is_callable (value-unbound [] c v s free)) ∙ k in cc
      by (cell.Int value) free k = cc
      by (cell.Atom name) free k = tt
      by (cell.Comp name first count) free k = tt

  pub parts_room : (parts : Parts) (count : ℕ) → AreParts e.place e.cell parts → HasRoom c goal count → parts.count + count ≤ 255
  parts_room parts count are h = by e.cell are (subst (λ t. count_of (args_of t) + count ≤ 255) (sym (same [])) h)
    where
      by : (x : Cell) → AreParts e.place x parts → count_of (args_of (seen_cell [] c x)) + count ≤ 255 → parts.count + count ≤ 255
      by (cell.Var v) is k = absurd is
      by (cell.Int value) is k = absurd is
      by (cell.Atom name) is k = let q : parts.count ≡ 0 = ap (λ (p : Parts). p.count) is in omega arith
      by (cell.Comp name first n) is k = let q : parts.count ≡ n = ap (λ (p : Parts). p.count) is in omega (arith, count-seen [] c first.at n)

  -- its arguments stand
  pub parts_stand : (parts : Parts) → AreParts e.place e.cell parts → parts.first.at + parts.count ≤ e.place.at
  parts_stand parts are = by e.cell end.before are
    where
      by : (x : Cell) → StandsBefore e.place.at x → AreParts e.place x parts → parts.first.at + parts.count ≤ e.place.at
      by (cell.Var v) before is = absurd is
      by (cell.Int value) before is = absurd is
      by (cell.Atom name) before is = let q : parts.count ≡ 0 = ap (λ (p : Parts). p.count) is in let f : parts.first.at ≡ e.place.at = ap (λ (p : Parts). p.first.at) is in omega arith
      by (cell.Comp name first n) before is = let q : parts.count ≡ n = ap (λ (p : Parts). p.count) is in let f : parts.first.at ≡ first.at = ap (λ (p : Parts). p.first.at) is in let b = before.1 in omega arith

-- ---- the goal that is made

some_args : (names : List Name) (c : Contents) (f : Name) (a n : ℕ) → 0 < n → Comp f (args_seen names c a n) ≡ term_of f (args_seen names c a n)
some_args names c f a zero lt = absurd (omega arith)
some_args names c f a (suc n) lt = refl

module _ (c d e new : Contents) (s : IsStore c) (se : IsStore e) (goal first : Ref) (count : ℕ) (place : Ref) (x : Cell) (same : (names : List Name) → seen_cell names c x ≡ seen names c goal.at)
    (parts : Parts) (are : AreParts place x parts) (stands : parts.first.at + parts.count ≤ length c.cells) (args : first.at + count ≤ length c.cells) (some : 0 < count) (row : Ref) (starts : row.at ≡ length c.cells)
    (own : AddsRow c d parts.first.at parts.count) (more : AddsRow d e first.at count) where
  both : AddsCells c e
  both = adds_both c d e own.adds more.adds

  -- the goal's arguments, and then the further ones
  own_same : (names : List Name) → args_at names e.cells (length c.cells) parts.count ≡ args_at names c.cells parts.first.at parts.count
  own_same names = args_at-same names e.cells c.cells (length c.cells) parts.first.at parts.count (λ k lt.
      ap (λ cs. shows names cs (length c.cells + k)) more.adds.cells
      ∙ shows-append names d.cells more.adds.more (length c.cells + k) (omega (arith, own.longer))
      ∙ own.same names k lt)

  more_same : (names : List Name) → args_at names e.cells (length c.cells + parts.count) count ≡ args_at names c.cells first.at count
  more_same names = args_at-same names e.cells c.cells (length c.cells + parts.count) first.at count (λ k lt.
      ap (λ n. shows names e.cells (n + k)) (sym own.longer)
      ∙ more.same names k lt
      ∙ ap (λ cs. shows names cs (first.at + k)) own.adds.cells
      ∙ shows-append names c.cells own.adds.more (first.at + k) (omega arith))

  made : (names : List Name) → seen_cell names e (cell.Comp parts.name row (parts.count + count)) ≡ Comp (name_at names parts.name.at) (joined (args_seen names c parts.first.at parts.count) (args_seen names c first.at count))
  made names =
      let f : Name = name_at names parts.name.at in
      let u = value_at (subst_of names c) in
      ap (λ (t : Subst). apply t (shown_from names e.cells (cell.Comp parts.name row (parts.count + count)))) ((Keeps-adds c e s both).bindings names)
      ∙ ap (λ n. Comp f (all_replaced u (args_at names e.cells n (parts.count + count)))) starts
      ∙ ap (λ ts. Comp f (all_replaced u ts)) (args_at-joined names e.cells (length c.cells) parts.count count)
      ∙ ap (Comp f) (all_replaced-joined u (args_at names e.cells (length c.cells) parts.count) (args_at names e.cells (length c.cells + parts.count) count))
      ∙ ap (λ ts. Comp f (joined (all_replaced u ts) (all_replaced u (args_at names e.cells (length c.cells + parts.count) count)))) (own_same names)
      ∙ ap (λ ts. Comp f (joined (args_seen names c parts.first.at parts.count) (all_replaced u ts))) (more_same names)

  by_cell : (names : List Name) (y : Cell) → AreParts place y parts → Comp (name_at names parts.name.at) (joined (args_seen names c parts.first.at parts.count) (args_seen names c first.at count)) ≡ with_args (seen_cell names c y) (args_seen names c first.at count)
  by_cell names (cell.Var v) is = absurd is
  by_cell names (cell.Int value) is = absurd is
  by_cell names (cell.Atom name) is =
      ap (λ (p : Parts). Comp (name_at names p.name.at) (joined (args_seen names c p.first.at p.count) (args_seen names c first.at count))) is
      ∙ some_args names c (name_at names name.at) first.at count some
  by_cell names (cell.Comp name a n) is = ap (λ (p : Parts). Comp (name_at names p.name.at) (joined (args_seen names c p.first.at p.count) (args_seen names c first.at count))) is

  pub joined_more : {E : Type 0} (r : Result Ref E) → IfOk r (λ at. at.at ≡ length e.cells) → OnOk r (new ≡ with_cell e (cell.Comp parts.name row (parts.count + count))) → IfOk r (ShowsMore c new goal first count)
  joined_more (Ok at) last put = λ names.
      new_cell e new (cell.Comp parts.name row (parts.count + count)) at.at se put last names
      ∙ made names ∙ by_cell names x are ∙ ap (λ t. with_args t (args_seen names c first.at count)) (same names)
  joined_more (Err z) last put = tt

  pub joined_atoms : {E : Type 0} (r : Result Ref E) → (end : slice_get c.cells place.at ≡ Some x) → OnOk r (new ≡ with_cell e (cell.Comp parts.name row (parts.count + count))) → OnOk r (KeepsAtoms c new)
  joined_atoms (Ok at) end put = λ n h. named_more n e new (cell.Comp parts.name row (parts.count + count)) put (more.named n (own.named n h)) (by n x are (AreNamed-cell n c.cells place.at x h end))
    where
      by : (n : ℕ) (y : Cell) → AreParts place y parts → IsNamed n y → parts.name.at < n
      by n (cell.Var v) is k = absurd is
      by n (cell.Int value) is k = absurd is
      by n (cell.Atom name) is k = let q : parts.name.at ≡ name.at = ap (λ (p : Parts). p.name.at) is in omega arith
      by n (cell.Comp name a m) is k = let q : parts.name.at ≡ name.at = ap (λ (p : Parts). p.name.at) is in omega arith
  joined_atoms (Err z) end put = tt
