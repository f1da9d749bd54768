use Rattle.std.proofs.Common.{chars, string_bytes, refl}
use Rattle.tp_terms.proofs.Texts.Added.{begins, goes, ends}
use Rattle.tp_report.specs.Pieces.{piece_text, pieces_text}
use Rattle.tp_report.proofs.Parts.Calls.{part_stops}
use Rattle.tp_report.proofs.Parts.Joined.{left-at, left-none}
use Rattle.tp_report.proofs.pieces.add_pieces.Goals as goal

pub loop-piece-init : goal.loop-piece-init
loop-piece-init c =
    let out = chars (string_bytes c.args.out.now) in
    begins out out (pieces_text c.args.pieces.now) refl

pub returns-in_err-add_piece : goal.returns-in_err-add_piece
returns-in_err-add_piece c = record {
  added =
      part_stops _ _ c.args.out.now c.loop-piece.out c.add_piece.new.out _ _ _ _ c.loop-piece.invariant
      (left-at piece_text c.args.pieces.now c.loop-piece.piece-index _ c.loop-piece-test.true) c.from_residual.ensures.1 c.in_err-add_piece.ensures.added;
}

pub loop-piece-preserved : goal.loop-piece-preserved
loop-piece-preserved c =
    goes _ _ _ _ _ _ _ c.loop-piece.invariant (left-at piece_text c.args.pieces.now c.loop-piece.piece-index _ c.loop-piece-test.true) c.in_ok-add_piece.ensures.added

pub returns : goal.returns
returns c = record {
  added =
      ends _ _ _ _ c.loop-piece.invariant (left-none piece_text c.args.pieces.now c.loop-piece.piece-index c.loop-piece-test.false);
}
