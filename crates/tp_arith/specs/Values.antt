-- What `eval` and `compare_numbers` answer.
use Rattle.std.specs.Prelude.{◌≡◌, ◌<◌, Bool, not, ℤ, int_lt, int_le, length, Result, Ok, Err}
use Rattle.std.specs.Ordering.{int_eq}
use Rattle.tp_terms.specs.declared.cells.Ref.{Ref}
use Rattle.tp_terms.specs.Term.{Term}
use Rattle.tp_meaning.specs.Checks.{Checked}
use Rattle.tp_meaning.specs.Heap.{Heap, seen}
use Rattle.tp_arith.specs.declared.raising.Raise.{Raise}
use Rattle.tp_arith.specs.declared.raising.Raise.TheVariants.{Raised, NoMemory}
use Rattle.tp_arith.specs.declared.Relation.{Relation}
use Rattle.tp_arith.specs.declared.Relation.TheVariants.{Equal, Unequal, Less, LessEqual, Greater}
use Rattle.tp_arith.specs.declared.Relation.TheVariants.{GreaterEqual}

-- the place shows this kind of error
pub record Raises (h : Heap) (kind : Term) (at : Ref) : Type 0 where
  pub within : at.at < length h.cells
  pub kind_is : seen h at.at ≡ kind

-- it does, or memory was refused
abbrev pub IsRaised : Heap → Term → Raise → Type 0
IsRaised h kind (Raised at) = Raises h kind at
IsRaised h kind NoMemory = Unit {0}

-- the value of these checks, or a place that shows the kind of their first error; memory may be
-- refused
abbrev pub Evaluates : {A : Type 0} → Heap → Checked A → Result A Raise → Type 0
Evaluates h c (Ok a) = c ≡ Ok a
Evaluates h c (Err (Raised at)) = (at.at < length h.cells) × (c ≡ Err (seen h at.at))
Evaluates h c (Err NoMemory) = Unit {0}

-- whether two numbers are in a relation
abbrev pub holds : Relation → ℤ → ℤ → Bool
holds Equal x y = int_eq x y
holds Unequal x y = not (int_eq x y)
holds Less x y = int_lt x y
holds LessEqual x y = int_le x y
holds Greater x y = int_lt y x
holds GreaterEqual x y = int_le y x
