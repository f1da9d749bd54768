-- What the cell of a place tells: what a read term is, and the heads that clauses may have.
use Rattle.std.specs.Prelude.{ℕ, ◌+◌, Bool, nat_eq, List, Option, Some, None, Result, Ok, Err}
use Rattle.std.specs.Prelude.{if◌then◌else◌}
use Rattle.tp_terms.specs.declared.cells.Cell.{Cell}
use Rattle.tp_terms.specs.declared.cells.Cell.TheVariants as cell
use Rattle.tp_terms.specs.declared.cells.Ref.{Ref}
use Rattle.tp_terms.specs.declared.cells.AtomId.{AtomId}
use Rattle.tp_terms.specs.declared.symbols.TheConstants.{NECK, QUERY, GRAMMAR}
use Rattle.tp_terms.specs.Term.{Name}
use Rattle.tp_terms.specs.Shown.{name_at}
use Rattle.tp_meaning.specs.Goals.{is_reserved}
use Rattle.tp_clauses.specs.declared.fault.Cause.{Cause}
use Rattle.tp_clauses.specs.declared.fault.Cause.TheVariants as cause
use Rattle.tp_clauses.specs.declared.kind.Key.{Key}
use Rattle.tp_clauses.specs.declared.kind.ReadKind.{ReadKind}
use Rattle.tp_clauses.specs.declared.kind.ReadKind.TheVariants as kind

abbrev pub is_atom : AtomId → AtomId → Bool
is_atom a b = nat_eq a.at b.at

abbrev pub unary_read : AtomId → Ref → ReadKind
unary_read name goal =
    if is_atom name NECK then kind.Directive goal
    else if is_atom name QUERY then kind.Query
    else kind.Fact

abbrev pub binary_read : AtomId → Ref → Ref → ReadKind
binary_read name left right =
    if is_atom name NECK then kind.Rule left right
    else if is_atom name GRAMMAR then kind.Grammar
    else kind.Fact

-- the place of an argument behind the first
abbrev pub behind : Ref → ℕ → Ref
behind first n = record { at = first.at + n }

-- what a read term is, by its cell
abbrev pub read_as : Option Cell → ReadKind
read_as (Some (cell.Comp name first count)) =
    if nat_eq count 1 then unary_read name first
    else if nat_eq count 2 then binary_read name first (behind first 1)
    else kind.Fact
read_as c = kind.Fact

-- the name and the number of arguments of a head, where the cell is one
abbrev pub key_of : Option Cell → Option Key
key_of (Some (cell.Atom name)) = Some (record { name = name; arity = 0 })
key_of (Some (cell.Comp name first count)) = Some (record { name = name; arity = count })
key_of c = None

-- a name and a number of arguments, where a clause may define them
abbrev pub free_key : List Name → AtomId → ℕ → Result Key Cause
free_key names name arity =
    if is_reserved (name_at names name.at) arity then Err cause.Builtin
    else Ok (record { name = name; arity = arity })

-- the name and the number of arguments that a head defines, or why it can't stand there
abbrev pub head_key : List Name → Option Cell → Result Key Cause
head_key names (Some (cell.Atom name)) = free_key names name 0
head_key names (Some (cell.Comp name first count)) = free_key names name count
head_key names c = Err cause.Head
