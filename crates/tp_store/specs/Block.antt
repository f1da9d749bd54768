-- Blocks of cells, which are copied in one walk.
use Rattle.std.specs.Prelude.{◌≡◌, ℕ, ◌+◌, ◌-◌, ◌<◌, ◌≤◌, Bool, false, nat_lt, if◌then◌else◌, pos}
use Rattle.std.specs.Prelude.{List, length, slice_get, Some}
use Rattle.tp_terms.specs.declared.cells.Cell.{Cell}
use Rattle.tp_terms.specs.declared.cells.Cell.TheVariants as cell
use Rattle.tp_terms.specs.Term.{Name, occurs}
use Rattle.tp_terms.specs.Shown.{StandsBefore, shows}
use Rattle.tp_meaning.specs.Clauses.{renamed}
use Rattle.tp_store.specs.declared.block.Moving.{Moving}
use Rattle.tp_store.specs.Contents.{Contents}
use Rattle.tp_store.specs.Copy.{IsClaimed, NamesBoth}

-- a compound's arguments stand from this place on
abbrev pub BeginsIn : ℕ → Cell → Type 0
BeginsIn low (cell.Var v) = Unit {0}
BeginsIn low (cell.Int value) = Unit {0}
BeginsIn low (cell.Atom name) = Unit {0}
BeginsIn low (cell.Comp name first count) = low ≤ first.at

-- the compounds of these places have their arguments from the lowest of the places on
abbrev pub IsWhole : List Cell → ℕ → ℕ → ℕ → Type 0
IsWhole from low start end =
    (at : ℕ) (x : Cell) → start ≤ at → at < end → slice_get from at ≡ Some x → BeginsIn low x

-- the places from low to end have all that a cell's term has besides the cell
pub record IsBlock (from : List Cell) (x : Cell) (low end : ℕ) : Type 0 where
  pub order : low ≤ end
  pub within : end ≤ length from
  pub whole : IsWhole from low low end
  pub first : BeginsIn low x
  pub before : StandsBefore end x

-- A cell that moves with its block. A variable whose number isn't claimed is of no term that is
-- copied, and an integer stands for it.
abbrev pub moved_by : Moving → Cell → Cell
moved_by m (cell.Var v) = if nat_lt v m.room then cell.Var (v + m.base) else cell.Int (pos 0)
moved_by m (cell.Int value) = cell.Int value
moved_by m (cell.Atom name) = cell.Atom name
moved_by m (cell.Comp name first count) =
    cell.Comp name (record { at = m.to + (first.at - m.low) }) count

-- the term of a place has no variable
abbrev pub HasNoVariable : List Cell → ℕ → Type 0
HasNoVariable cells at = (v : ℕ) (names : List Name) → occurs v (shows names cells at) ≡ false

-- The cells of a block before a place were added, moved.
pub record AreMoved (from : List Cell) (m : Moving) (old new : Contents) (end : ℕ) (varies : Bool)
    : Type 0 where
  pub place : length new.cells ≡ m.to + (end - m.low)
  pub shown : (at : ℕ) → m.low ≤ at → at < end → IsClaimed from at m.base old.vars →
      (names : List Name) →
      shows names new.cells (m.to + (at - m.low)) ≡ renamed m.base (shows names from at)
  pub plain : varies ≡ false → (at : ℕ) → m.to ≤ at → at < length new.cells →
      HasNoVariable new.cells at
  pub named : NamesBoth from old.cells new.cells
