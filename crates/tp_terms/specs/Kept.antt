-- Cells as they are kept.
use Rattle.tp_terms.specs.declared.cells.Cell.{Cell}
use Rattle.tp_terms.specs.declared.cells.Cell.TheVariants as cell
use Rattle.tp_terms.specs.declared.cells.Kept.{Kept}
use Rattle.tp_terms.specs.declared.cells.Kept.TheVariants as kept

-- the cell that is kept
abbrev pub cell_of : Kept → Cell
cell_of (kept.Var number) = cell.Var number
cell_of (kept.Int value) = cell.Int value
cell_of (kept.Atom name) = cell.Atom name
cell_of (kept.Comp count name first) = cell.Comp name first count
