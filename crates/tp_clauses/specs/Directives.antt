-- Directives: `:- op(Priority, Type, Name)`, and no other.
use Rattle.std.specs.Prelude.{Bool, false, nat_le, ◌&&◌, List, [], ◌∷◌, Option, Some, None, Ok, Err}
use Rattle.std.specs.Prelude.{ℤ, pos, negsuc, codes, is_some, if◌then◌else◌}
use Rattle.tp_terms.specs.Term.{Name, Term, Int, Atom, Comp, NoMore, More, names_eq}
use Rattle.tp_parse.specs.Table.{Table, type_of, add_op}

abbrev pub with_first : Name → Option (List Name) → Option (List Name)
with_first name None = None
with_first name (Some names) = Some (name ∷ names)

-- the names in a list of atoms
abbrev pub listed_names : Term → Option (List Name)
listed_names (Atom a) = if names_eq a (codes "[]") then Some [] else None
listed_names (Comp f (More (Atom a) (More rest NoMore))) =
    if names_eq f (codes ".") then with_first a (listed_names rest) else None
listed_names t = None

-- an atom by itself, or a list of atoms
abbrev pub op_names : Term → Option (List Name)
op_names (Atom a) = if names_eq a (codes "[]") then Some [] else Some (a ∷ [])
op_names t = listed_names t

-- a priority and a type that an operator may have, whatever its name
abbrev pub allows : ℤ → Name → Bool
allows (negsuc n) kind = false
allows (pos p) kind = nat_le p 1200 && is_some (type_of kind)

-- the table with each of these names added in order
abbrev pub add_each : ℤ → Name → List Name → Table → Option Table
add_each p kind [] t = Some t
add_each p kind (name ∷ names) t =
    elim (add_op p kind name t) [ Ok u ↦ add_each p kind names u | Err fault ↦ None ]

abbrev pub add_names : ℤ → Name → Option (List Name) → Table → Option Table
add_names p kind None t = None
add_names p kind (Some names) t = if allows p kind then add_each p kind names t else None

-- the table after a directive, none where it isn't one that may be given
abbrev pub directive : Term → Table → Option Table
directive (Comp f (More (Int p) (More (Atom kind) (More names NoMore)))) t =
    if names_eq f (codes "op") then add_names p kind (op_names names) t else None
directive goal t = None
