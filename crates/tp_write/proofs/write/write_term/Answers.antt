use Rattle.std.specs.Prelude.{vec_len}
use Rattle.std.proofs.Common.{◌≡◌, ◌++◌, [], ◌∷◌, length, arith, chars, string_bytes, refl, sym, ap, subst, ◌∙◌}
use Rattle.tp_terms.proofs.Texts.Added.{Adds-exit, Adds-none}
use Rattle.tp_parse.specs.Ops.{table_of}
use Rattle.tp_write.specs.declared.pieces.Piece.TheVariants.{Term}
use Rattle.tp_write.specs.declared.pieces.Position.TheVariants.{Within}
use Rattle.tp_write.specs.Work.{ArePieces}
use Rattle.tp_write.proofs.Writes.Steps.{taken-pieces, work-begins, work-smaller, work-goes, work-stops, work-ends, nothing_left}
use Rattle.tp_write.proofs.write.write_term.Goals as goal

pub pieces-init : goal.pieces-init
pieces-init g c =
    let items : c.push.new.self.items ≡ Term c.args.root (Within c.args.max) ∷ [] = c.in_ok-push.ensures.items ∙ ap (λ l. l ++ Term c.args.root (Within c.args.max) ∷ []) c.new-stack.ensures.items in
    record {
      pieces = subst (ArePieces (length c.args.atoms.now) c.args.cells.now.items) (sym items) (c.requires.root, tt);
      progress = work-begins (table_of c.args.ops.now) c.args.atoms.now (g.B.Binds.bindings c.args.binds.now) c.args.cells.now.items (chars (string_bytes c.args.out.now)) c.args.root c.args.max c.push.new.self.items items;
    }

pub step-requires-clause-piece : goal.step-requires-clause-piece
step-requires-clause-piece g c = (taken-pieces (table_of c.args.ops.now) c.args.atoms.now (g.B.Binds.bindings c.args.binds.now) c.args.cells.now.items c.pieces.stack.items c.pop.new.self.items c.in-Some.piece c.in-Some.ensures.items c.pieces.invariant.pieces).1

pub step-requires-clause-pieces : goal.step-requires-clause-pieces
step-requires-clause-pieces g c = (taken-pieces (table_of c.args.ops.now) c.args.atoms.now (g.B.Binds.bindings c.args.binds.now) c.args.cells.now.items c.pieces.stack.items c.pop.new.self.items c.in-Some.piece c.in-Some.ensures.items c.pieces.invariant.pieces).0

pub pieces-smaller : goal.pieces-smaller
pieces-smaller g c = work-smaller (table_of c.args.ops.now) c.args.atoms.now (g.B.Binds.bindings c.args.binds.now) c.args.cells.now.items c.pieces.stack.items c.pop.new.self.items c.step.new.stack.items c.in-Some.piece c.in-Some.ensures.items c.in_ok-step.ensures.step

pub pieces-preserved : goal.pieces-preserved
pieces-preserved g c = record {
  pieces = c.in_ok-step.ensures.step.pieces;
  progress = work-goes (table_of c.args.ops.now) c.args.atoms.now (g.B.Binds.bindings c.args.binds.now) c.args.cells.now.items _ _ _ _ c.pieces.stack.items c.pop.new.self.items c.step.new.stack.items c.in-Some.piece c.in-Some.ensures.items c.in_ok-step.ensures.added c.in_ok-step.ensures.step c.pieces.invariant.progress;
}

pub returns-in_err-push : goal.returns-in_err-push
returns-in_err-push g c = record { added = Adds-none _ _ c.args.out.now c.args.out.now _ c.from_residual.ensures.1 refl }

pub returns-in_err-step : goal.returns-in_err-step
returns-in_err-step g c =
    let within = work-stops (table_of c.args.ops.now) c.args.atoms.now (g.B.Binds.bindings c.args.binds.now) c.args.cells.now.items _ _ _ _ c.pieces.stack.items c.pop.new.self.items c.in-Some.piece c.in-Some.ensures.items c.in_err-step.ensures.added c.pieces.invariant.progress in
    record { added = Adds-exit _ _ c.args.out.now c.step.new.out _ c.from_residual-in_err-step.ensures.1 within }

pub returns : goal.returns
returns g c =
    let counted : vec_len c.pieces.stack ≡ length c.pieces.stack.items = omega arith in
    let none : c.pieces.stack.items ≡ [] = nothing_left c.pieces.stack.items (vec_len c.pieces.stack) c.pop.result c.pop.ensures.variant.1 c.in_default.not-Some counted in
    record { added = work-ends (table_of c.args.ops.now) c.args.atoms.now (g.B.Binds.bindings c.args.binds.now) c.args.cells.now.items _ _ _ c.pieces.stack.items none c.pieces.invariant.progress }
