-- Checks that are made in order, and the kinds of error that they raise.
use Rattle.std.specs.Prelude.{ℕ, Bool, true, false, nat_lt, [], ◌∷◌, Result, Ok, Err, ℤ, pos}
use Rattle.std.specs.Prelude.{negsuc, if◌then◌else◌}
use Prim.Native.String.{String}
use Rattle.tp_terms.specs.Term.{Name, Term, Terms, Var, Int, Atom, Comp, atom, comp, nat}

-- a value, or the kind of an error
abbrev pub Checked : Type 0 → Type 0
Checked A = Result A Term

-- the second step where the first gives a value, else its error
infixl 10 ◌>>=◌
abbrev pub ◌>>=◌ : {A B : Type 0} → Checked A → (A → Checked B) → Checked B
Ok x >>= f = f x
Err e >>= f = Err e

infixl 10 ◌>>◌
abbrev pub ◌>>◌ : {A : Type 0} → Checked (Unit {0}) → Checked A → Checked A
Ok x >> r = r
Err e >> r = Err e

-- the kinds of error
abbrev pub unbound : Term
unbound = atom "instantiation_error"

abbrev pub type_error : String → Term → Term
type_error what culprit = comp "type_error" (atom what ∷ culprit ∷ [])

abbrev pub domain_error : String → Term → Term
domain_error what culprit = comp "domain_error" (atom what ∷ culprit ∷ [])

abbrev pub evaluation_error : String → Term
evaluation_error what = comp "evaluation_error" (atom what ∷ [])

abbrev pub representation_error : String → Term
representation_error what = comp "representation_error" (atom what ∷ [])

abbrev pub existence_error : String → Term → Term
existence_error what culprit = comp "existence_error" (atom what ∷ culprit ∷ [])

abbrev pub permission_error : String → String → Term → Term
permission_error act what culprit = comp "permission_error" (atom act ∷ atom what ∷ culprit ∷ [])

-- `Name/Arity`
abbrev pub indicator : Name → ℕ → Term
indicator name arity = comp "/" (Atom name ∷ nat arity ∷ [])

-- no clause defines the goals of a name and a number of arguments
abbrev pub unknown : Name → ℕ → Term
unknown name arity = existence_error "procedure" (indicator name arity)

-- an error as it is raised, with its kind and the name of the process
abbrev pub error : Term → Name → Term
error kind name = comp "error" (kind ∷ Atom name ∷ [])

-- an error where a test holds
infix 20 ◌if◌
abbrev pub ◌if◌ : Term → Bool → Checked (Unit {0})
e if true = Err e
e if false = Ok tt

-- no unbound variable
abbrev pub bound : Term → Checked (Unit {0})
bound (Var v) = Err unbound
bound t = Ok tt

abbrev pub integer : Term → Checked ℤ
integer (Int z) = Ok z
integer t = Err (type_error "integer" t)

-- an integer, which is no unbound variable
abbrev pub integer_given : Term → Checked ℤ
integer_given t = do
  bound t
  integer t

-- the name of an atom
abbrev pub name_in : Term → Checked Name
name_in (Atom a) = Ok a
name_in t = Err (type_error "atom" t)

-- the arguments of a compound
abbrev pub args_in : Term → Checked Terms
args_in (Comp f ts) = Ok ts
args_in t = Err (type_error "compound" t)

-- no compound
abbrev pub atomic : Term → Checked (Unit {0})
atomic (Comp f ts) = Err (type_error "atomic" (Comp f ts))
atomic t = Ok tt

-- no integer
abbrev pub callable : Term → Checked (Unit {0})
callable (Int z) = Err (type_error "callable" (Int z))
callable t = Ok tt

abbrev pub natural : ℤ → Checked ℕ
natural (pos n) = Ok n
natural (negsuc n) = Err (domain_error "not_less_than_zero" (Int (negsuc n)))

-- the most arguments of a compound
abbrev pub arity_fits : ℕ → Checked (Unit {0})
arity_fits n = representation_error "max_arity" if nat_lt 255 n
