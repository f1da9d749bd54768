-- A block of cells, one cell after another.
use Rattle.std.proofs.Common.{◌≡◌, ℕ, ◌+◌, ◌-◌, ◌<◌, ◌≤◌, Bool, true, false, nat_lt, ◌||◌, List, [], ◌∷◌, length, slice_get, Some, refl, ap, sym, subst, ◌∙◌, arith, length-append}
use Rattle.std.proofs.lemmas.Bool.{ltb-true, ltb-false, or_parts}
use Rattle.tp_terms.specs.declared.cells.Cell.{Cell}
use Rattle.tp_terms.specs.declared.cells.Ref.{Ref}
use Rattle.tp_terms.specs.Shown.{shows, AreNamed, StandsBefore}
use Rattle.tp_terms.specs.Term.{Name, occurs}
use Rattle.tp_terms.proofs.Places.Shown.{shows-append, shows-push, shows-cell, AreNamed-cell, AreNamed-push}
use Rattle.tp_meaning.specs.Clauses.{renamed}
use Rattle.tp_store.specs.declared.block.Moving.{Moving}
use Rattle.tp_store.specs.Block.{AreMoved, BeginsIn, HasNoVariable, moved_by}
use Rattle.tp_store.specs.Contents.{Contents, with_cell}
use Rattle.tp_store.specs.Copy.{IsClaimed, NamesBoth, ShowsCopy}
use Rattle.tp_store.specs.Meeting.{IsNoVariable}
use Rattle.tp_store.proofs.Blocks.Cells.{moved_begins, moved_named, moved_shows, moved_stands, plain_push}

-- no cell was added yet
pub moved_none : (from : List Cell) (m : Moving) (old : Contents) → m.to ≡ length old.cells → AreMoved from m old old m.low false
moved_none from m old to = record {
  place = omega arith;
  shown = λ at le lt. absurd (omega arith);
  plain = λ e at le lt. absurd (omega arith);
  named = λ n f o. o;
}

module _ (from : List Cell) (m : Moving) (old now new : Contents) (end at : ℕ) (varies own : Bool) (x : Cell) (h : AreMoved from m old now end varies) (room : m.room ≡ old.vars - m.base) (order : m.low ≤ end)
    (here : slice_get from at ≡ Some x) (stands : StandsBefore at x) (begins : BeginsIn m.low x) (before : StandsBefore end x) (value : new ≡ with_cell now (moved_by m x)) (own_plain : own ≡ false → IsNoVariable (moved_by m x)) where
  count_of : m.low + (length now.cells - m.to) ≡ end
  count_of = let p = h.place in omega (arith, p)

  ready : StandsBefore (length now.cells) (moved_by m x)
  ready = let p = h.place in moved_stands m (length now.cells) x (omega (arith, p)) begins (subst (λ k. StandsBefore k x) (sym count_of) before)

  longer : length new.cells ≡ length now.cells + 1
  longer = ap (λ (c : Contents). length c.cells) value ∙ length-append now.cells (moved_by m x ∷ [])

  -- The new cell shows what the cell showed,
  pub cell_shown : IsClaimed from at m.base old.vars → (names : List Name) → shows names new.cells (length now.cells) ≡ renamed m.base (shows names from at)
  cell_shown claimed names =
      ap (λ (c : Contents). shows names c.cells (length now.cells)) value
      ∙ shows-push names now.cells (moved_by m x)
      ∙ moved_shows m from now.cells old.vars end h.shown names x room begins before (λ v o. claimed v (ap (occurs v) (shows-cell [] from at x here stands) ∙ o))
      ∙ ap (renamed m.base) (sym (shows-cell names from at x here stands))

  -- there is no variable still,
  pub cells_plain : (varies || own) ≡ false → (k : ℕ) → m.to ≤ k → k < length new.cells → HasNoVariable new.cells k
  cells_plain e =
      let both = or_parts varies own e in
      subst (λ (c : Contents). (k : ℕ) → m.to ≤ k → k < length c.cells → HasNoVariable c.cells k) (sym value)
      (plain_push now.cells m.to (h.plain both.0) (moved_by m x) (own_plain both.1) (moved_begins m x) ready)

  -- and each name is of both.
  pub cells_named : NamesBoth from old.cells new.cells
  cells_named n f o = subst (λ (c : Contents). AreNamed n c.cells) (sym value) (AreNamed-push n now.cells (moved_by m x) (h.named n f o) (moved_named m n x (AreNamed-cell n from at x f here)))

  -- the block with one more cell
  pub moved_more : at ≡ end → AreMoved from m old new (end + 1) (varies || own)
  moved_more same = record {
    place = let p = h.place in omega (arith, p, longer);
    shown = λ k le lt claimed names. go k le lt claimed names (nat_lt k end) refl;
    plain = cells_plain;
    named = cells_named;
  }
    where
      go : (k : ℕ) → m.low ≤ k → k < end + 1 → IsClaimed from k m.base old.vars → (names : List Name) → (t : Bool) → nat_lt k end ≡ t → shows names new.cells (m.to + (k - m.low)) ≡ renamed m.base (shows names from k)
      go k le lt claimed names true e =
          let l = ltb-true k end e in
          let p = h.place in
          ap (λ (c : Contents). shows names c.cells (m.to + (k - m.low))) value
          ∙ shows-append names now.cells (moved_by m x ∷ []) (m.to + (k - m.low)) (omega (arith, p))
          ∙ h.shown k le l claimed names
      go k le lt claimed names false e =
          let l = ltb-false k end e in
          let p = h.place in
          let here_at : at ≡ k = omega (arith, same) in
          let place_at : m.to + (k - m.low) ≡ length now.cells = omega (arith, p) in
          ap (shows names new.cells) place_at
          ∙ cell_shown (subst (λ i. IsClaimed from i m.base old.vars) (sym here_at) claimed) names
          ∙ ap (λ i. renamed m.base (shows names from i)) here_at

  -- the cell of the root, at the last place
  pub last_plain : (place : ℕ) → place ≡ length now.cells → (varies || own) ≡ false → HasNoVariable new.cells place
  last_plain place e o = let p = h.place in cells_plain o place (omega (arith, p)) (omega (arith, longer))

  pub last_shown : (root place : Ref) → at ≡ root.at → place.at ≡ length now.cells → IsClaimed from root.at m.base old.vars → ShowsCopy from root m.base new.cells place
  last_shown root place same e claimed names =
      ap (shows names new.cells) e
      ∙ cell_shown (subst (λ i. IsClaimed from i m.base old.vars) (sym same) claimed) names
      ∙ ap (λ i. renamed m.base (shows names from i)) same
