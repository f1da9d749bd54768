-- One cell that moves with its block.
use Rattle.std.proofs.Common.{◌≡◌, ℕ, zero, suc, ◌+◌, ◌-◌, ◌<◌, ◌≤◌, Bool, true, false, cond, nat_eq, nat_lt, pos, List, [], ◌∷◌, ◌++◌, length, slice_get, Some, refl, ap, sym, subst, ◌∙◌, arith, length-append}
use Rattle.std.proofs.lemmas.Bool.{eq-eqb, lt-ltb, ltb-true, ltb-false, or_from, or_parts}
use Rattle.tp_terms.specs.declared.cells.Cell.{Cell}
use Rattle.tp_terms.specs.declared.cells.Cell.TheVariants as cell
use Rattle.tp_terms.specs.Shown.{name_at, shows, shown_from, args_at, StandsBefore, IsNamed}
use Rattle.tp_terms.specs.Term.{Name, Term, Terms, Var, Int, Atom, Comp, NoMore, More, replaced, all_replaced, occurs, occurs_in}
use Rattle.tp_terms.proofs.Places.Shown.{shows-append, shows-push}
use Rattle.tp_meaning.specs.Clauses.{renamed}
use Rattle.tp_meaning.proofs.Unification.Complete.{left, right}
use Rattle.tp_store.specs.declared.block.Moving.{Moving}
use Rattle.tp_store.specs.Block.{BeginsIn, HasNoVariable, IsWhole, moved_by}
use Rattle.tp_store.specs.Contents.{IsNumbered}
use Rattle.tp_store.specs.Copy.{IsClaimed}
use Rattle.tp_store.specs.Meeting.{IsNoVariable}

module _ (m : Moving) where
  -- The cell can stand behind the block's cells,
  pub moved_stands : (k : ℕ) (x : Cell) → m.to ≤ k → BeginsIn m.low x → StandsBefore (m.low + (k - m.to)) x → StandsBefore k (moved_by m x)
  moved_stands k (cell.Var v) le b s = go (nat_lt v m.room)
    where
      go : (t : Bool) → StandsBefore k (cond t (cell.Var (v + m.base)) (cell.Int (pos 0)))
      go true = tt
      go false = tt
  moved_stands k (cell.Int value) le b s = tt
  moved_stands k (cell.Atom name) le b s = tt
  moved_stands k (cell.Comp name first count) le b s = (s.0, let e = s.1 in omega arith)

  -- its variable is claimed,
  pub moved_numbered : (vars : ℕ) (x : Cell) → m.room ≡ vars - m.base → IsNumbered vars (moved_by m x)
  moved_numbered vars (cell.Var v) room = go (nat_lt v m.room) refl
    where
      go : (t : Bool) → nat_lt v m.room ≡ t → IsNumbered vars (cond t (cell.Var (v + m.base)) (cell.Int (pos 0)))
      go true e = let l = ltb-true v m.room e in omega arith
      go false e = tt
  moved_numbered vars (cell.Int value) room = tt
  moved_numbered vars (cell.Atom name) room = tt
  moved_numbered vars (cell.Comp name first count) room = tt

  -- its name is the same,
  pub moved_named : (n : ℕ) (x : Cell) → IsNamed n x → IsNamed n (moved_by m x)
  moved_named n (cell.Var v) h = go (nat_lt v m.room)
    where
      go : (t : Bool) → IsNamed n (cond t (cell.Var (v + m.base)) (cell.Int (pos 0)))
      go true = tt
      go false = tt
  moved_named n (cell.Int value) h = tt
  moved_named n (cell.Atom name) h = h
  moved_named n (cell.Comp name first count) h = h

  -- and its arguments are of the copy.
  pub moved_begins : (x : Cell) → BeginsIn m.to (moved_by m x)
  moved_begins (cell.Var v) = go (nat_lt v m.room)
    where
      go : (t : Bool) → BeginsIn m.to (cond t (cell.Var (v + m.base)) (cell.Int (pos 0)))
      go true = tt
      go false = tt
  moved_begins (cell.Int value) = tt
  moved_begins (cell.Atom name) = tt
  moved_begins (cell.Comp name first count) = omega arith

  -- ---- what it shows, where the cells before it show what they should

  module _ (from cells : List Cell) (vars end : ℕ) (h : (at : ℕ) → m.low ≤ at → at < end → IsClaimed from at m.base vars → (names : List Name) → shows names cells (m.to + (at - m.low)) ≡ renamed m.base (shows names from at)) where
    args_moved : (names : List Name) (first n : ℕ) → m.low ≤ first → first + n ≤ end → ((v : ℕ) → occurs_in v (args_at [] from first n) ≡ true → v + m.base < vars)
        → args_at names cells (m.to + (first - m.low)) n ≡ all_replaced (λ v. Var (v + m.base)) (args_at names from first n)
    args_moved names first zero le lt c = refl
    args_moved names first (suc n) le lt c =
        let e : suc (m.to + (first - m.low)) ≡ m.to + (suc first - m.low) = omega arith in
        ap (λ t. More t (args_at names cells (suc (m.to + (first - m.low))) n)) (h first le (omega arith) (λ v o. c v (left (occurs v (shows [] from first)) (occurs_in v (args_at [] from (suc first) n)) o)) names)
        ∙ ap (λ k. More (renamed m.base (shows names from first)) (args_at names cells k n)) e
        ∙ ap (More (renamed m.base (shows names from first))) (args_moved names (suc first) n (omega arith) (omega arith) (λ v o. c v (right (occurs v (shows [] from first)) (occurs_in v (args_at [] from (suc first) n)) o)))

    pub moved_shows : (names : List Name) (x : Cell) → m.room ≡ vars - m.base → BeginsIn m.low x → StandsBefore end x → ((v : ℕ) → occurs v (shown_from [] from x) ≡ true → v + m.base < vars)
        → shown_from names cells (moved_by m x) ≡ renamed m.base (shown_from names from x)
    moved_shows names (cell.Var v) room b s c =
        let l : v + m.base < vars = c v (eq-eqb v v refl) in
        ap (λ t. shown_from names cells (cond t (cell.Var (v + m.base)) (cell.Int (pos 0)))) (lt-ltb v m.room (omega arith))
    moved_shows names (cell.Int value) room b s c = refl
    moved_shows names (cell.Atom name) room b s c = refl
    moved_shows names (cell.Comp name first count) room b s c = ap (Comp (name_at names name.at)) (args_moved names first.at count b s.1 c)

-- ---- cells without a variable

module _ (cells : List Cell) (to : ℕ) (h : (at : ℕ) → to ≤ at → at < length cells → HasNoVariable cells at) where
  plain_args : (v : ℕ) (names : List Name) (first n : ℕ) → to ≤ first → first + n ≤ length cells → occurs_in v (args_at names cells first n) ≡ false
  plain_args v names first zero le lt = refl
  plain_args v names first (suc n) le lt = rw (h first le (omega arith) v names) (plain_args v names (suc first) n (omega arith) (omega arith))

  plain_cell : (v : ℕ) (names : List Name) (x : Cell) → IsNoVariable x → BeginsIn to x → StandsBefore (length cells) x → occurs v (shown_from names cells x) ≡ false
  plain_cell v names (cell.Var w) other b s = absurd (other w refl)
  plain_cell v names (cell.Int value) other b s = refl
  plain_cell v names (cell.Atom name) other b s = refl
  plain_cell v names (cell.Comp name first count) other b s = plain_args v names first.at count b s.1

  -- one more cell that is no variable
  pub plain_push : (x : Cell) → IsNoVariable x → BeginsIn to x → StandsBefore (length cells) x → (at : ℕ) → to ≤ at → at < length (cells ++ x ∷ []) → HasNoVariable (cells ++ x ∷ []) at
  plain_push x other b s at le lt v names = go (nat_lt at (length cells)) refl
    where
      go : (t : Bool) → nat_lt at (length cells) ≡ t → occurs v (shows names (cells ++ x ∷ []) at) ≡ false
      go true e = let l = ltb-true at (length cells) e in ap (occurs v) (shows-append names cells (x ∷ []) at l) ∙ h at le l v names
      go false e =
          let l = ltb-false at (length cells) e in
          let last : at ≡ length cells = omega (arith, length-append cells (x ∷ [])) in
          ap (λ k. occurs v (shows names (cells ++ x ∷ []) k)) last ∙ ap (occurs v) (shows-push names cells x) ∙ plain_cell v names x other b s

-- ---- the lowest place

begins_lower : (n m : ℕ) (x : Cell) → n ≤ m → BeginsIn m x → BeginsIn n x
begins_lower n m (cell.Var v) le b = tt
begins_lower n m (cell.Int value) le b = tt
begins_lower n m (cell.Atom name) le b = tt
begins_lower n m (cell.Comp name first count) le b = omega arith

-- one more cell of a block, from its end on
pub whole_more : (from : List Cell) (low lower at start end : ℕ) (x : Cell) → start ≡ at - 1 → IsWhole from low at end → lower ≤ low → slice_get from start ≡ Some x → BeginsIn lower x → IsWhole from lower start end
whole_more from low lower at start end x is h le here b k y from_start before e = go (nat_lt k at) refl
  where
    go : (t : Bool) → nat_lt k at ≡ t → BeginsIn lower y
    go true l =
        let lt = ltb-true k at l in
        let same : start ≡ k = omega (arith, is) in
        let cells : Some x ≡ Some y = sym here ∙ ap (slice_get from) same ∙ e in
        let one : x ≡ y = cc in
        subst (BeginsIn lower) one b
    go false l = begins_lower lower low y le (h k y (ltb-false k at l) before e)

-- ---- a term without a variable, under a substitution

mutual
  -- no variable comes in
  pub plain_replaced : (f : ℕ → Term) (w : ℕ) (t : Term) → ((v : ℕ) → occurs v t ≡ false) → occurs w (replaced f t) ≡ false
  plain_replaced f w (Var v) h = absurd (let e = eq-eqb v v refl in let g : nat_eq v v ≡ false = h v in cc)
  plain_replaced f w (Int z) h = refl
  plain_replaced f w (Atom a) h = refl
  plain_replaced f w (Comp c ts) h = all_plain_replaced f w ts h

  all_plain_replaced : (f : ℕ → Term) (w : ℕ) (ts : Terms) → ((v : ℕ) → occurs_in v ts ≡ false) → occurs_in w (all_replaced f ts) ≡ false
  all_plain_replaced f w NoMore h = refl
  all_plain_replaced f w (More t ts) h =
      or_from (occurs w (replaced f t)) (occurs_in w (all_replaced f ts)) (plain_replaced f w t (λ v. (or_parts (occurs v t) (occurs_in v ts) (h v)).0)) (all_plain_replaced f w ts (λ v. (or_parts (occurs v t) (occurs_in v ts) (h v)).1))
