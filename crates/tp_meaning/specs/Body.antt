-- Terms as goals.
use Rattle.std.specs.Prelude.{Bool, [], ◌∷◌, Option, Some, None, Ok, Err, codes, if◌then◌else◌}
use Rattle.std.specs.Prelude.{◌||◌}
use Rattle.tp_terms.specs.Term.{Name, Term, Var, Int, Atom, Comp, NoMore, More, names_eq, comp}
use Rattle.tp_meaning.specs.Checks.{Checked, unbound, type_error}

-- the names of control goals that are made of two goals
abbrev pub joins_goals : Name → Bool
joins_goals f = (names_eq f (codes ",") || names_eq f (codes ";")) || names_eq f (codes "->")

abbrev pub pair_body : Name → Option Term → Option Term → Option Term
pair_body f (Some a) (Some b) = Some (Comp f (More a (More b NoMore)))
pair_body f _ _ = None

-- a term as a goal, where it is one
abbrev pub body : Term → Option Term
body (Var v) = Some (comp "call" (Var v ∷ []))
body (Int n) = None
body (Atom a) = Some (Atom a)
body (Comp f (More a (More b NoMore))) =
    if joins_goals f then pair_body f (body a) (body b) else Some (Comp f (More a (More b NoMore)))
body (Comp f ts) = Some (Comp f ts)

abbrev pub entered_as : Term → Option Term → Checked Term
entered_as g None = Err (type_error "callable" g)
entered_as g (Some b) = Ok b

-- a goal that is entered at run time
abbrev pub enter : Term → Checked Term
enter (Var v) = Err unbound
enter g = entered_as g (body g)
