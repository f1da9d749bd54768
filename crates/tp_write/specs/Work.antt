-- What is left to write: pieces, each of which stands for its text.
use Rattle.std.specs.Prelude.{◌≡◌, ℕ, zero, suc, ◌+◌, ◌*◌, ◌<◌, ◌≤◌, ◌^◌, Bool, true, false, not}
use Rattle.std.specs.Prelude.{◌&&◌, ◌||◌, nat_lt, nat_eq, is_some, List, [], ◌∷◌, ◌++◌, length}
use Rattle.std.specs.Prelude.{Option, None, codes, decimal, if◌then◌else◌, Result, OnOk}
use Rattle.std.specs.Fmt.{signed_decimal}
use Rattle.std.specs.declared.alloc.Global.{Global}
use Rattle.std.specs.declared.vec.Vec.{Vec}
use Rattle.tp_terms.specs.declared.cells.Cell.{Cell}
use Rattle.tp_terms.specs.declared.cells.Cell.TheVariants as cell
use Rattle.tp_terms.specs.declared.cells.Ref.{Ref}
use Rattle.tp_terms.specs.declared.cells.AtomId.{AtomId}
use Rattle.tp_terms.specs.Term.{Name, Term, Terms, Var, Int, Atom, Comp, NoMore, More, names_eq}
use Rattle.tp_terms.specs.Shown.{name_at, StandsBefore, IsNamed, AreNamed}
use Rattle.tp_terms.specs.Binds.{Bindings, bound_in}
use Rattle.tp_parse.specs.Table.{Op, Table, left_bound, right_bound}
use Rattle.tp_write.specs.declared.pieces.End.{End}
use Rattle.tp_write.specs.declared.pieces.Form.{Form}
use Rattle.tp_write.specs.declared.pieces.Form.TheVariants.{Listed, Braces, Infix, Prefix, Plain}
use Rattle.tp_write.specs.declared.pieces.Position.{Position}
use Rattle.tp_write.specs.declared.pieces.Position.TheVariants.{Within, Operand, Left}
use Rattle.tp_write.specs.declared.pieces.Piece.{Piece}
use Rattle.tp_write.specs.declared.pieces.Piece.TheVariants as piece
use Rattle.tp_write.specs.Names.{name_text}
use Rattle.tp_write.specs.Text.{unary_form, binary_form, priority, priority_by, may_stand_left}
use Rattle.tp_write.specs.Text.{operand_closed, left_closed, in_parentheses, args_text, written}
use Rattle.tp_write.specs.Text.{all_written}
use Rattle.tp_write.specs.Under.{under}

-- ---- cells under bindings

module _ (names : List Name) (bindings : Bindings) (cells : List Cell) where
  -- the terms of so many places
  abbrev pub unders : ℕ → ℕ → Terms
  unders first zero = NoMore
  unders first (suc n) = More (under names bindings cells first) (unders (suc first) n)

  -- the term of a cell that is no bound variable
  abbrev pub cell_term : Cell → Term
  cell_term (cell.Var number) = Var number
  cell_term (cell.Int value) = Int value
  cell_term (cell.Atom name) = Atom (name_at names name.at)
  cell_term (cell.Comp name first count) = Comp (name_at names name.at) (unders first.at count)

-- the place that a bound variable leads to
abbrev pub next_of : Bindings → Cell → Option Ref
next_of bindings (cell.Var number) = bound_in bindings number
next_of bindings (cell.Int value) = None
next_of bindings (cell.Atom name) = None
next_of bindings (cell.Comp name first count) = None

-- The end of the chain of bindings that begins at a place: its last place is there, and both places
-- show the term of the last cell.
pub record Ends (bindings : Bindings) (cells : List Cell) (at : ℕ) (end : End) : Type 0 where
  pub place : end.place.at < length cells
  pub before : StandsBefore end.place.at end.cell
  pub named : (n : ℕ) → AreNamed n cells → IsNamed n end.cell
  pub same : (names : List Name) →
      under names bindings cells at ≡ cell_term names bindings cells end.cell
  pub last : (names : List Name) →
      under names bindings cells end.place.at ≡ cell_term names bindings cells end.cell

-- ---- forms of cells

-- the form of a compound with so many arguments
abbrev pub compound_form : Table → Name → ℕ → Form
compound_form table f zero = Plain
compound_form table f (suc zero) = unary_form f (table.prefixes f)
compound_form table f (suc (suc zero)) = binary_form f (table.infixes f)
compound_form table f (suc (suc (suc n))) = Plain

-- the form of a cell
abbrev pub cell_form : Table → List Name → Cell → Form
cell_form table names (cell.Var number) = Plain
cell_form table names (cell.Int value) = Plain
cell_form table names (cell.Atom name) = Plain
cell_form table names (cell.Comp name first count) =
    compound_form table (name_at names name.at) count

-- the name is a prefix or an infix operator
abbrev pub is_operator : Table → Name → Bool
is_operator table a = is_some (table.prefixes a) || is_some (table.infixes a)

-- the cell is an atom that is an operator
abbrev pub is_operator_cell : Table → List Name → Cell → Bool
is_operator_cell table names (cell.Var number) = false
is_operator_cell table names (cell.Int value) = false
is_operator_cell table names (cell.Atom name) = is_operator table (name_at names name.at)
is_operator_cell table names (cell.Comp name first count) = false

-- whether a cell of this form stands in parentheses at this position
abbrev pub cell_closed : Table → List Name → Cell → Form → Position → Bool
cell_closed table names c form (Within max) = nat_lt max (priority_by form)
cell_closed table names c form (Operand bound) =
    is_operator_cell table names c || nat_lt bound (priority_by form)
cell_closed table names c form (Left o) =
    (is_operator_cell table names c || nat_lt (left_bound o) (priority_by form))
    || (nat_eq (priority_by form) o.0 && not (may_stand_left form))

-- whether a term does
abbrev pub closed : Table → Position → Term → Bool
closed table (Within max) t = nat_lt max (priority table t)
closed table (Operand bound) t = operand_closed table bound t
closed table (Left o) t = left_closed table o t

-- ---- pieces

module _ (table : Table) (names : List Name) (bindings : Bindings) (cells : List Cell) where
  -- the text for which a piece stands
  abbrev pub piece_text : Piece → List ℕ
  piece_text (piece.Mark c) = c ∷ []
  piece_text (piece.Name name) = name_text (name_at names name.at)
  piece_text (piece.Number n) = decimal n
  piece_text (piece.Integer z) = signed_decimal z
  piece_text (piece.Term at position) =
      let t = under names bindings cells at.at in
      in_parentheses (closed table position t) (written table t).alone
  piece_text (piece.Args first count) =
      let ts = unders names bindings cells first.at count in
      args_text table ts (all_written table ts)
  piece_text (piece.Behind at) = (written table (under names bindings cells at.at)).behind

  -- the text of a stack, whose last piece comes first
  unfoldable pub stack_text : List Piece → List ℕ
  stack_text [] = []
  stack_text (p ∷ ps) = stack_text ps ++ piece_text p

-- the piece speaks of atoms and places that are there
abbrev pub IsPiece : ℕ → List Cell → Piece → Type 0
IsPiece n cells (piece.Mark c) = Unit {0}
IsPiece n cells (piece.Name name) = name.at < n
IsPiece n cells (piece.Number k) = Unit {0}
IsPiece n cells (piece.Integer z) = Unit {0}
IsPiece n cells (piece.Term at position) = at.at < length cells
IsPiece n cells (piece.Args first count) =
    (0 < count) × (first.at + count ≤ length cells) × (first.at + count < 2 ^ 64)
IsPiece n cells (piece.Behind at) = at.at < length cells

-- so does each piece of a stack
abbrev pub ArePieces : ℕ → List Cell → List Piece → Type 0
ArePieces n cells [] = Unit {0}
ArePieces n cells (p ∷ ps) = IsPiece n cells p × ArePieces n cells ps

-- ---- how much is left to do

-- the nodes of a term, and those of arguments with one more for each
abbrev mutual
  pub weigh : Term → ℕ
  weigh (Var v) = 1
  weigh (Int n) = 1
  weigh (Atom a) = 1
  weigh (Comp f ts) = 1 + weigh_all ts

  pub weigh_all : Terms → ℕ
  weigh_all NoMore = 0
  weigh_all (More t ts) = 1 + (weigh t + weigh_all ts)

module _ (names : List Name) (bindings : Bindings) (cells : List Cell) where
  -- more than what any pieces weigh that a step puts in its place
  abbrev pub piece_weight : Piece → ℕ
  piece_weight (piece.Mark c) = 1
  piece_weight (piece.Name name) = 1
  piece_weight (piece.Number n) = 1
  piece_weight (piece.Integer z) = 1
  piece_weight (piece.Term at position) = 8 * weigh (under names bindings cells at.at) + 4
  piece_weight (piece.Args first count) =
      8 * weigh_all (unders names bindings cells first.at count) + 1
  piece_weight (piece.Behind at) = 8 * weigh (under names bindings cells at.at) + 6

  -- the weight of a stack
  unfoldable pub stack_weight : List Piece → ℕ
  stack_weight [] = 0
  stack_weight (p ∷ ps) = piece_weight p + stack_weight ps

-- ---- the pieces of a cell, in the order of the stack: what comes first in the text stands last

-- the place behind a place
abbrev pub next_place : ℕ → Ref
next_place at = record { at = at + 1 }

-- an argument or an element of a list
abbrev pub argument : Ref → Piece
argument at = piece.Term at (Within 999)

-- the name of an infix operator between its operands: `,` alone, and any other between spaces
abbrev pub infix_pieces : List Name → AtomId → List Piece
infix_pieces names name =
    if names_eq (name_at names name.at) (codes ",") then piece.Mark 44 ∷ []
    else piece.Mark 32 ∷ piece.Name name ∷ piece.Mark 32 ∷ []

-- an infix operator with its operands, from the first one's place on
abbrev pub operator_pieces : List Name → Op → AtomId → Ref → List Piece
operator_pieces names o name first =
    piece.Term (next_place first.at) (Operand (right_bound o))
    ∷ (infix_pieces names name ++ piece.Term first (Left o) ∷ [])

-- A compound: an element and what follows it between `[` and `]`; an argument between `{` and `}`;
-- an infix operator; a prefix operator, a space and its operand; a name and its arguments between
-- `(` and `)`.
abbrev pub compound_pieces : List Name → Form → AtomId → Ref → ℕ → List Piece
compound_pieces names Listed name first count =
    piece.Mark 93 ∷ piece.Behind (next_place first.at) ∷ argument first ∷ piece.Mark 91 ∷ []
compound_pieces names Braces name first count =
    piece.Mark 125 ∷ piece.Term first (Within 1200) ∷ piece.Mark 123 ∷ []
compound_pieces names (Infix o) name first count = operator_pieces names o name first
compound_pieces names (Prefix o) name first count =
    piece.Term first (Operand (right_bound o)) ∷ piece.Mark 32 ∷ piece.Name name ∷ []
compound_pieces names Plain name first count =
    piece.Mark 41 ∷ piece.Args first count ∷ piece.Mark 40 ∷ piece.Name name ∷ []

-- a term without parentheses around it: a variable by `_` and its number
abbrev pub alone_pieces : List Name → Form → Cell → List Piece
alone_pieces names form (cell.Var number) = piece.Number number ∷ piece.Mark 95 ∷ []
alone_pieces names form (cell.Int value) = piece.Integer value ∷ []
alone_pieces names form (cell.Atom name) = piece.Name name ∷ []
alone_pieces names form (cell.Comp name first n) = compound_pieces names form name first n

-- a parenthesis where it is needed
abbrev pub mark_if : Bool → ℕ → List Piece
mark_if true c = piece.Mark c ∷ []
mark_if false c = []

-- a term at a position
abbrev pub term_pieces : Table → List Name → Position → Cell → List Piece
term_pieces table names position c =
    let form = cell_form table names c in
    let needed = cell_closed table names c form position in
    mark_if needed 41 ++ (alone_pieces names form c ++ mark_if needed 40)

-- so many arguments with commas between
abbrev pub args_pieces : Ref → ℕ → List Piece
args_pieces first zero = []
args_pieces first (suc zero) = argument first ∷ []
args_pieces first (suc (suc n)) =
    piece.Args (next_place first.at) (suc n) ∷ piece.Mark 44 ∷ argument first ∷ []

-- what follows an element, where it is no list: a bar and the term
abbrev pub tail_pieces : Ref → List Piece
tail_pieces at = argument at ∷ piece.Mark 124 ∷ []

-- what follows an element, where it is the compound of this place: for a list a comma, its element
-- and what follows that
abbrev pub pair_pieces : List Name → AtomId → Ref → Ref → ℕ → List Piece
pair_pieces names name at first (suc (suc zero)) =
    if names_eq (name_at names name.at) (codes ".")
    then piece.Behind (next_place first.at) ∷ argument first ∷ piece.Mark 44 ∷ []
    else tail_pieces at
pair_pieces names name at first count = tail_pieces at

-- what follows an element, where it is the cell of this place: nothing for the empty list
abbrev pub behind_pieces : List Name → Ref → Cell → List Piece
behind_pieces names at (cell.Var number) = tail_pieces at
behind_pieces names at (cell.Int value) = tail_pieces at
behind_pieces names at (cell.Atom name) =
    if names_eq (name_at names name.at) (codes "[]") then [] else tail_pieces at
behind_pieces names at (cell.Comp name first count) = pair_pieces names name at first count

-- the call put these pieces on the stack where it succeeded
abbrev pub Puts : {A E : Type 0} → Vec Piece Global → Vec Piece Global → Result A E →
    List Piece → Type 0
Puts old new result pieces = OnOk result (new.items ≡ old.items ++ pieces)

-- ---- a step of the work

-- what a step adds for a piece: the whole text of what is no term, and else nothing
abbrev pub own_text : List Name → Piece → List ℕ
own_text names (piece.Mark c) = c ∷ []
own_text names (piece.Name name) = name_text (name_at names name.at)
own_text names (piece.Number n) = decimal n
own_text names (piece.Integer z) = signed_decimal z
own_text names (piece.Term at position) = []
own_text names (piece.Args first count) = []
own_text names (piece.Behind at) = []

module _ (table : Table) (names : List Name) (bindings : Bindings) (cells : List Cell) where
  -- The stack behind a step, whose piece is no longer on the old one: with what the step added it
  -- stands for the same text, and there is less to do.
  pub record Stepped (p : Piece) (old new : List Piece) : Type 0 where
    pub same :
        piece_text table names bindings cells p ++ stack_text table names bindings cells old
        ≡ own_text names p ++ stack_text table names bindings cells new
    pub pieces : ArePieces (length names) cells new
    pub smaller :
        stack_weight names bindings cells new
        < piece_weight names bindings cells p + stack_weight names bindings cells old
