-- Cells whose places are moved on.
use Rattle.std.specs.Prelude.{ℕ, ◌+◌, ◌<◌, ◌^◌, option_map}
use Rattle.tp_terms.specs.declared.cells.Cell.{Cell}
use Rattle.tp_terms.specs.declared.cells.Cell.TheVariants as cell
use Rattle.tp_terms.specs.declared.cells.Ref.{Ref}
use Rattle.tp_clauses.specs.declared.base.ClauseView.{ClauseView}

-- a place so many cells further on
abbrev pub place_on : ℕ → Ref → Ref
place_on by place = record { at = place.at + by }

abbrev pub moved : ℕ → Cell → Cell
moved by (cell.Comp name first count) = cell.Comp name (place_on by first) count
moved by c = c

-- the arguments of a cell can be moved on so far
abbrev pub CanMove : ℕ → Cell → Type 0
CanMove by (cell.Comp name first count) = first.at + by < 2 ^ 64
CanMove by c = Unit {0}

-- a clause whose places are moved on
abbrev pub moved_view : ℕ → ClauseView → ClauseView
moved_view by v =
    record { head = place_on by v.head; body = option_map (place_on by) v.body; vars = v.vars }
