-- The texts of the pieces of a line.
use Rattle.std.specs.Prelude.{ℕ, List, chars, decimal, flat_map}
use Rattle.std.specs.Fmt.{signed_decimal}
use Rattle.tp_write.specs.Names.{name_text}
use Rattle.tp_report.specs.declared.pieces.Piece.{Piece}
use Rattle.tp_report.specs.declared.pieces.Piece.TheVariants as piece
use Rattle.tp_report.specs.Report.{doer_text}

-- the text of a piece
abbrev pub piece_text : Piece → List ℕ
piece_text (piece.Text text) = chars text.now
piece_text (piece.Count n) = decimal n
piece_text (piece.Integer z) = signed_decimal z
piece_text (piece.Name name) = name_text (chars name.now)
piece_text (piece.Doer name) = doer_text (chars name.now)

-- the texts of pieces, one behind the other
abbrev pub pieces_text : List Piece → List ℕ
pieces_text = flat_map piece_text
