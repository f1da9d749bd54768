use Rattle.std.proofs.Common.{length, chars, string_bytes}
use Rattle.tp_parse.specs.Ops.{table_of}
use Rattle.tp_terms.specs.Added.{Progress}
use Rattle.tp_write.specs.Text.{text}
use Rattle.tp_write.specs.Under.{under}
use Rattle.tp_write.specs.Work.{ArePieces, stack_text, stack_weight}
use Rattle.tp_write.proofs.write.write_term.Given as goal

abbrev pub invariant-pieces : goal.invariant-pieces
invariant-pieces g l = record {
  pieces : ArePieces (length l.atoms) l.cells.items l.stack.items;
  progress : Progress (chars (string_bytes l.fn.out)) (chars (string_bytes l.out))
      (text (table_of l.ops) l.max (under l.atoms (g.B.Binds.bindings l.binds) l.cells.items l.fn.root.at))
      (stack_text (table_of l.ops) l.atoms (g.B.Binds.bindings l.binds) l.cells.items l.stack.items);
}

abbrev pub decreases-pieces : goal.decreases-pieces
decreases-pieces g l = stack_weight l.atoms (g.B.Binds.bindings l.binds) l.cells.items l.stack.items
