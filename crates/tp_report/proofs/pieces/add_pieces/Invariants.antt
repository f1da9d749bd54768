use Rattle.std.proofs.Common.{chars, string_bytes, drop}
use Rattle.tp_terms.specs.Added.{Progress}
use Rattle.tp_report.specs.Pieces.{pieces_text}
use Rattle.tp_report.proofs.pieces.add_pieces.Given as goal

abbrev pub invariant-loop-piece : goal.invariant-loop-piece
invariant-loop-piece l =
    Progress (chars (string_bytes l.fn.out)) (chars (string_bytes l.out)) (pieces_text l.pieces) (pieces_text (drop l.piece-index l.pieces))
