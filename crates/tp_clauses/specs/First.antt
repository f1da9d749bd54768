-- First arguments, and the clauses that a goal of some first argument may match.
use Rattle.std.specs.Prelude.{ℕ, Bool, true, false, nat_eq, nat_le, ◌&&◌, ◌||◌, List, length}
use Rattle.std.specs.Prelude.{filter, slice_get, Option, Some, None, if◌then◌else◌}
use Rattle.std.specs.Ordering.{int_eq}
use Rattle.tp_terms.specs.declared.cells.Cell.{Cell}
use Rattle.tp_terms.specs.declared.cells.Cell.TheVariants as cell
use Rattle.tp_terms.specs.declared.cells.AtomId.{AtomId}
use Rattle.tp_clauses.specs.Contents.{Contents, places_of}
use Rattle.tp_clauses.specs.declared.base.ClauseId.{ClauseId}
use Rattle.tp_clauses.specs.declared.base.ClauseView.{ClauseView}
use Rattle.tp_clauses.specs.declared.first.FirstArg.{FirstArg}
use Rattle.tp_clauses.specs.declared.first.FirstArg.TheVariants.{Any, Int, Atom, Comp}

-- what a cell is as a first argument
abbrev pub first_of_cell : Option Cell → FirstArg
first_of_cell (Some (cell.Int value)) = Int value
first_of_cell (Some (cell.Atom name)) = Atom name
first_of_cell (Some (cell.Comp name first count)) = Comp name count
first_of_cell c = Any

-- the first argument of a head, by the head's cell
abbrev pub first_of_head : List Cell → Option Cell → FirstArg
first_of_head cells (Some (cell.Comp name first count)) = first_of_cell (slice_get cells first.at)
first_of_head cells c = Any

-- the first argument of a clause
abbrev pub first_of_view : List Cell → Option ClauseView → FirstArg
first_of_view cells None = Any
first_of_view cells (Some v) = first_of_head cells (slice_get cells v.head.at)

abbrev pub first_arg : Contents → ClauseId → FirstArg
first_arg c id = first_of_view c.cells (slice_get c.clauses id.at)

-- the same integer, atom or principal functor, or both any
abbrev pub same_first : FirstArg → FirstArg → Bool
same_first Any Any = true
same_first (Int m) (Int n) = int_eq m n
same_first (Atom a) (Atom b) = nat_eq a.at b.at
same_first (Comp f m) (Comp g n) = nat_eq f.at g.at && nat_eq m n
same_first _ _ = false

-- A clause of the second first argument may match a goal of the first: one of them is a variable,
-- or they are the same.
abbrev pub may_match : FirstArg → FirstArg → Bool
may_match goal clause =
    (same_first goal Any || same_first clause Any) || same_first goal clause

-- the clauses of a predicate that have this very first argument
abbrev pub with_first : AtomId → ℕ → FirstArg → Contents → List ClauseId
with_first name arity first c =
    filter (λ id. same_first first (first_arg c id)) (places_of name arity c)

-- the most clauses of an indexed predicate whose first argument is a variable
abbrev pub most_any : ℕ
most_any = 64

-- A predicate is indexed where few of its clauses have a variable as first argument.
abbrev pub is_indexed : AtomId → ℕ → Contents → Bool
is_indexed name arity c = nat_le (length (with_first name arity Any c)) most_any

-- The clauses that a goal of a first argument is tried with: of an indexed predicate those that may
-- match, of another all.
abbrev pub candidates_of : AtomId → ℕ → FirstArg → Contents → List ClauseId
candidates_of name arity first c =
    if is_indexed name arity c
    then filter (λ id. may_match first (first_arg c id)) (places_of name arity c)
    else places_of name arity c
