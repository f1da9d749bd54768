-- Operators added one by one.
use Rattle.std.specs.Prelude.{ℕ, List, fold}
use Rattle.tp_terms.specs.Term.{Name}
use Rattle.tp_parse.specs.declared.table.OpType.{OpType}
use Rattle.tp_parse.specs.Table.{Table, with_op}

-- the table with each of these operators in it
abbrev pub with_operators : Table → List (ℕ × OpType × Name) → Table
with_operators t operators = fold (λ u o. with_op o.0 o.1 o.2 u) t operators
