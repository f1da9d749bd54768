-- The names in every table of names from its start on.
use Rattle.std.specs.Prelude.{◌≡◌, List, [], ◌∷◌, ◌++◌, Some, codes, map, slice_get}
use Rattle.tp_terms.specs.declared.cells.AtomId.{AtomId}
use Rattle.tp_terms.specs.Term.{Name}
use Prim.Native.String.{String}

-- the names that are spelled so
abbrev pub spelled : List String → List Name
spelled = map codes

-- the names of lists and braces
abbrev pub list_names : List Name
list_names = spelled ("." ∷ "[]" ∷ "{}" ∷ [])

-- the names of control goals
abbrev pub control_names : List Name
control_names = spelled (
    "true" ∷ "fail" ∷ "," ∷ "!" ∷ ";" ∷ "->" ∷ "\\+" ∷ "call" ∷ "once" ∷ "repeat" ∷ "between" ∷
    [])

-- the names of process goals
abbrev pub process_names : List Name
process_names = spelled (
    "new" ∷ "hold" ∷ "send" ∷ "wait_for" ∷ "wait" ∷ "now" ∷ "self" ∷ "note" ∷ [])

-- the names of built-ins
abbrev pub built_in_names : List Name
built_in_names = spelled (
    "var" ∷ "nonvar" ∷ "atom" ∷ "integer" ∷ "atomic" ∷ "compound" ∷ "callable" ∷ "=" ∷ "\\=" ∷
    "==" ∷ "\\==" ∷ "@<" ∷ "@=<" ∷ "@>" ∷ "@>=" ∷ "is" ∷ "=:=" ∷ "=\\=" ∷ "<" ∷ "=<" ∷ ">" ∷
    ">=" ∷ "functor" ∷ "arg" ∷ "=.." ∷ "copy_term" ∷ "atom_length" ∷ "atom_codes" ∷ [])

-- the names of evaluable functors
abbrev pub evaluable_names : List Name
evaluable_names = spelled (
    "+" ∷ "-" ∷ "*" ∷ "//" ∷ "div" ∷ "mod" ∷ "rem" ∷ "/\\" ∷ "\\/" ∷ "\\" ∷ "<<" ∷ ">>" ∷ "abs" ∷
    "sign" ∷ "min" ∷ "max" ∷ [])

-- the names of further operators
abbrev pub operator_names : List Name
operator_names = spelled (":-" ∷ "-->" ∷ "?-" ∷ "/" ∷ "**" ∷ "^" ∷ [])

-- the directive for operators, and their types
abbrev pub directive_names : List Name
directive_names = spelled ("op" ∷ "xfx" ∷ "xfy" ∷ "yfx" ∷ "fy" ∷ "fx" ∷ [])

-- the words of error terms
abbrev pub error_names : List Name
error_names = spelled (
    "error" ∷ "instantiation_error" ∷ "type_error" ∷ "domain_error" ∷ "existence_error" ∷
    "permission_error" ∷ "representation_error" ∷ "evaluation_error" ∷ "evaluable" ∷ "list" ∷
    "procedure" ∷ "process" ∷ "create" ∷ "start_time" ∷ "end_time" ∷ "process_name" ∷
    "not_less_than_zero" ∷ "non_empty_list" ∷ "max_arity" ∷ "character_code" ∷ "int_overflow" ∷
    "zero_divisor" ∷ "undefined" ∷ [])

-- the first process, and the end time that never comes
abbrev pub world_names : List Name
world_names = spelled ("main" ∷ "inf" ∷ [])

-- all of them, in the order of their places
unfoldable pub start_names : List Name
start_names =
    list_names ++ control_names ++ process_names ++ built_in_names ++ evaluable_names
    ++ operator_names ++ directive_names ++ error_names ++ world_names

-- from the start on, each of these atoms has its name
abbrev pub AreAtStart : List (AtomId × String) → Type 0
AreAtStart atoms = map (λ a. slice_get start_names a.0.at) atoms ≡ map (λ a. Some (codes a.1)) atoms
