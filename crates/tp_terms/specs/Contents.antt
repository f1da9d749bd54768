-- Cells, as contracts see them.
use Rattle.std.specs.Prelude.{ℕ, List}
use Rattle.tp_terms.specs.declared.cells.Cell.{Cell}

-- the cells by their places, and how many more can be pushed without fail
pub record Contents : Type 0 where
  pub items : List Cell
  pub room : ℕ
