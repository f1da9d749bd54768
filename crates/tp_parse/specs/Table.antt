-- Tables of operators: each name has at most one entry as a prefix operator and at most one as an
-- infix operator.
use Rattle.std.specs.Prelude.{ℕ, ◌-◌, Bool, true, false, nat_eq, ◌||◌, List, [], ◌∷◌, fold, Option}
use Rattle.std.specs.Prelude.{Some, None, Result, Ok, Err, ℤ, pos, negsuc, int_lt, codes}
use Rattle.std.specs.Prelude.{if◌then◌else◌}
use Rattle.tp_terms.specs.Term.{Name, names_eq}
use Rattle.tp_parse.specs.declared.table.OpType.{OpType}
use Rattle.tp_parse.specs.declared.table.OpType.TheVariants.{Xfx, Xfy, Yfx, Fy, Fx}
use Rattle.tp_parse.specs.declared.table.OpFault.{OpFault}
use Rattle.tp_parse.specs.declared.table.OpFault.TheVariants as fault
use Prim.Native.String.{String}

-- an operator's priority and type
abbrev pub Op : Type 0
Op = ℕ × OpType

-- The largest priority of an operand: the operator's minus 1 for an x, and the operator's for a y.
-- A prefix operator has no left operand.
abbrev pub left_by : OpType → ℕ → ℕ
left_by Xfx p = p - 1
left_by Xfy p = p - 1
left_by Yfx p = p
left_by Fy p = 0
left_by Fx p = 0

abbrev pub right_by : OpType → ℕ → ℕ
right_by Xfx p = p - 1
right_by Xfy p = p
right_by Yfx p = p - 1
right_by Fy p = p
right_by Fx p = p - 1

abbrev pub left_bound : Op → ℕ
left_bound o = left_by o.1 o.0

abbrev pub right_bound : Op → ℕ
right_bound o = right_by o.1 o.0

pub record Table : Type 0 where
  pub prefixes : Name → Option Op
  pub infixes : Name → Option Op

-- a map with one name's entry changed
abbrev pub changed : Name → Option Op → (Name → Option Op) → Name → Option Op
changed name entry entries n = if names_eq n name then entry else entries n

-- priority 0 is no entry
abbrev pub entry_of : ℕ → OpType → Option Op
entry_of p kind = if nat_eq p 0 then None else Some (p, kind)

abbrev pub is_prefix : OpType → Bool
is_prefix Xfx = false
is_prefix Xfy = false
is_prefix Yfx = false
is_prefix Fy = true
is_prefix Fx = true

-- the table in which a name has this entry in its class
abbrev pub with_op : ℕ → OpType → Name → Table → Table
with_op p kind name t =
    if is_prefix kind then record t { prefixes = changed name (entry_of p kind) t.prefixes }
    else record t { infixes = changed name (entry_of p kind) t.infixes }

-- the types by their names
abbrev pub type_of : Name → Option OpType
type_of n =
    if names_eq n (codes "xfx") then Some Xfx
    else if names_eq n (codes "xfy") then Some Xfy
    else if names_eq n (codes "yfx") then Some Yfx
    else if names_eq n (codes "fy") then Some Fy
    else if names_eq n (codes "fx") then Some Fx
    else None

-- the names that no operator may have
abbrev pub is_kept_name : Name → Bool
is_kept_name n =
    (names_eq n (codes ",") || names_eq n (codes "|"))
    || (names_eq n (codes "[]") || names_eq n (codes "{}"))

abbrev pub add_typed : ℕ → Option OpType → Name → Table → Result Table OpFault
add_typed p None name t = Err fault.Kind
add_typed p (Some kind) name t =
    if is_kept_name name then Err fault.Name else Ok (with_op p kind name t)

-- the table with an operator added, or the first of the checks that refuses it: priority, type,
-- name
abbrev pub add_op : ℤ → Name → Name → Table → Result Table OpFault
add_op (negsuc n) kind name t = Err fault.Priority
add_op (pos p) kind name t =
    if int_lt (pos 1200) (pos p) then Err fault.Priority else add_typed p (type_of kind) name t

-- ---- the table at the start

-- operators of one priority and type
pub record Row : Type 0 where
  pub priority : ℕ
  pub kind : OpType
  pub names : List String

abbrev pub row : ℕ → OpType → List String → Row
row p kind names = record { priority = p; kind = kind; names = names }

abbrev pub start_rows : List Row
start_rows =
    row 1200 Xfx (":-" ∷ "-->" ∷ [])
    ∷ row 1200 Fx (":-" ∷ "?-" ∷ [])
    ∷ row 1100 Xfy (";" ∷ [])
    ∷ row 1050 Xfy ("->" ∷ [])
    ∷ row 1000 Xfy ("," ∷ [])
    ∷ row 900 Fy ("\\+" ∷ [])
    ∷ row 700 Xfx ("=" ∷ "\\=" ∷ "==" ∷ "\\==" ∷ "@<" ∷ "@=<" ∷ "@>" ∷ "@>=" ∷ "=.." ∷ "is" ∷ "=:="
    ∷ "=\\=" ∷ "<" ∷ "=<" ∷ ">" ∷ ">=" ∷ [])
    ∷ row 500 Yfx ("+" ∷ "-" ∷ "/\\" ∷ "\\/" ∷ [])
    ∷ row 400 Yfx ("*" ∷ "/" ∷ "//" ∷ "rem" ∷ "mod" ∷ "div" ∷ "<<" ∷ ">>" ∷ [])
    ∷ row 200 Xfx ("**" ∷ [])
    ∷ row 200 Xfy ("^" ∷ [])
    ∷ row 200 Fy ("-" ∷ "\\" ∷ [])
    ∷ []

abbrev pub empty_table : Table
empty_table = record { prefixes = λ n. None; infixes = λ n. None }

abbrev pub with_row : Table → Row → Table
with_row t r = fold (λ t name. with_op r.priority r.kind (codes name) t) t r.names

unfoldable pub start_table : Table
start_table = fold with_row empty_table start_rows
