-- The errors of built-in goals, as kinds of error terms, and checks that give a value or a fault.
use Rattle.std.specs.Prelude.{◌≡◌, Result, Ok, Err, Some, slice_get, codes}
use Prim.Native.String.{String}
use Rattle.tp_terms.specs.declared.cells.AtomId.{AtomId}
use Rattle.tp_terms.specs.declared.cells.Cell.{Cell}
use Rattle.tp_terms.specs.Term.{Term}
use Rattle.tp_terms.specs.StartNames.{start_names}
use Rattle.tp_meaning.specs.Checks.{Checked, unbound, type_error, domain_error}
use Rattle.tp_meaning.specs.Checks.{representation_error}
use Rattle.tp_meaning.specs.Heap.{Heap, CanStand, cell_seen}
use Rattle.tp_build.specs.declared.errors.WantedType.{WantedType}
use Rattle.tp_build.specs.declared.errors.WantedType.TheVariants as type
use Rattle.tp_build.specs.declared.errors.WantedDomain.{WantedDomain}
use Rattle.tp_build.specs.declared.errors.WantedDomain.TheVariants as domain
use Rattle.tp_build.specs.declared.errors.Limit.{Limit}
use Rattle.tp_build.specs.declared.errors.Limit.TheVariants as limit
use Rattle.tp_build.specs.declared.errors.Fault.{Fault}
use Rattle.tp_build.specs.declared.errors.Fault.TheVariants as fault

-- the words of error terms
abbrev pub type_word : WantedType → String
type_word type.Integer = "integer"
type_word type.Atom = "atom"
type_word type.Atomic = "atomic"
type_word type.Compound = "compound"
type_word type.List = "list"

abbrev pub domain_word : WantedDomain → String
domain_word domain.NotLessThanZero = "not_less_than_zero"
domain_word domain.NonEmptyList = "non_empty_list"

abbrev pub limit_word : Limit → String
limit_word limit.MaxArity = "max_arity"
limit_word limit.CharacterCode = "character_code"

-- an atom's name is this one in every table
abbrev pub IsWord : AtomId → String → Type 0
IsWord atom word = slice_get start_names atom.at ≡ Some (codes word)

-- the kind of a fault, by what its culprit's cell shows
abbrev pub fault_term : (Cell → Term) → Fault → Term
fault_term shows fault.Unbound = unbound
fault_term shows (fault.Type wanted culprit) = type_error (type_word wanted) (shows culprit)
fault_term shows (fault.Domain wanted culprit) = domain_error (domain_word wanted) (shows culprit)
fault_term shows (fault.Representation limit) = representation_error (limit_word limit)

abbrev pub fault_kind : Heap → Fault → Term
fault_kind h = fault_term (cell_seen h)

-- its culprit can be added to the heap
abbrev pub FaultStands : Heap → Fault → Type 0
FaultStands h fault.Unbound = Unit {0}
FaultStands h (fault.Type wanted culprit) = CanStand h culprit
FaultStands h (fault.Domain wanted culprit) = CanStand h culprit
FaultStands h (fault.Representation limit) = Unit {0}

-- checks give an error, and this is why
pub record IsFault {A : Type 0} (h : Heap) (c : Checked A) (f : Fault) : Type 0 where
  pub kind : c ≡ Err (fault_kind h f)
  pub stands : FaultStands h f

-- the value of these checks, which is kept as another, or the fault that is their error
abbrev pub Finds : {A B : Type 0} → Heap → Checked A → (B → A) → Result B Fault → Type 0
Finds h c of (Ok b) = c ≡ Ok (of b)
Finds h c of (Err f) = IsFault h c f

abbrev pub itself : {A : Type 0} → A → A
itself a = a
