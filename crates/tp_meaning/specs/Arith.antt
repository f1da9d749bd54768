-- Arithmetic: the value of a term. Operations are on whole numbers without bound, and each result
-- has to be within 64 bits.
use Rattle.std.specs.Prelude.{ℕ, zero, suc, ◌/◌, ◌^◌, Bool, ◌||◌, List, [], ◌∷◌, Option, Some, None}
use Rattle.std.specs.Prelude.{Ok, Err, ℤ, pos, negsuc, ◌+ℤ◌, ◌-ℤ◌, ◌*ℤ◌, neg_ℤ, unsigned_abs}
use Rattle.std.specs.Prelude.{int_lt, int_div, codes, if◌then◌else◌}
use Rattle.std.specs.Int.{w64, int_bit_and, int_bit_or, int_bit_not, int_min, int_max, int_signum}
use Prim.Native.String.{String}
use Rattle.tp_terms.specs.Term.{Name, Term, Var, Int, Atom, Comp, NoMore, More, count_of, names_eq}
use Rattle.tp_meaning.specs.Subst.{Subst, apply}
use Rattle.tp_meaning.specs.Checks.{Checked, ◌>>=◌, ◌>>◌, ◌if◌, unbound, type_error}
use Rattle.tp_meaning.specs.Checks.{evaluation_error, indicator}
use Rattle.tp_meaning.specs.declared.evaluables.UnaryOperation.{UnaryOperation}
use Rattle.tp_meaning.specs.declared.evaluables.UnaryOperation.TheVariants as unary
use Rattle.tp_meaning.specs.declared.evaluables.BinaryOperation.{BinaryOperation}
use Rattle.tp_meaning.specs.declared.evaluables.BinaryOperation.TheVariants as binary

-- the operations that a name stands for, with one argument and with two
abbrev pub Operations : Type 0
Operations = Option UnaryOperation × Option BinaryOperation

-- a name and its operations
pub record OperationRow : Type 0 where
  pub name : Name
  pub operations : Operations

abbrev pub row : String → Option UnaryOperation → Option BinaryOperation → OperationRow
row name one two = record { name = codes name; operations = (one, two) }

-- one row for each name
unfoldable pub operations : List OperationRow
operations =
    row "+" None (Some binary.Add)
    ∷ row "-" (Some unary.Negate) (Some binary.Subtract)
    ∷ row "*" None (Some binary.Multiply)
    ∷ row "//" None (Some binary.Quotient)
    ∷ row "div" None (Some binary.FloorQuotient)
    ∷ row "mod" None (Some binary.Modulus)
    ∷ row "rem" None (Some binary.Remainder)
    ∷ row "/\\" None (Some binary.BitAnd)
    ∷ row "\\/" None (Some binary.BitOr)
    ∷ row "\\" (Some unary.BitNot) None
    ∷ row "<<" None (Some binary.ShiftLeft)
    ∷ row ">>" None (Some binary.ShiftRight)
    ∷ row "abs" (Some unary.Abs) None
    ∷ row "sign" (Some unary.Sign) None
    ∷ row "min" None (Some binary.Min)
    ∷ row "max" None (Some binary.Max)
    ∷ []

-- the operations of the first of some rows that has a name
abbrev pub operations_in : List OperationRow → Name → Operations
operations_in [] name = (None, None)
operations_in (r ∷ rows) name =
    if names_eq name r.name then r.operations else operations_in rows name

-- the operations that a name stands for
unfoldable pub operations_of : Name → Operations
operations_of = operations_in operations

-- ---- operations, in whole numbers without bound

-- the quotient toward minus infinity; the divisor isn't 0
abbrev pub floor_div : ℤ → ℤ → ℤ
floor_div (pos a) (pos b) = pos (a / b)
floor_div (negsuc a) (pos b) = negsuc (a / b)
floor_div (pos zero) (negsuc b) = pos 0
floor_div (pos (suc a)) (negsuc b) = negsuc (a / suc b)
floor_div (negsuc a) (negsuc b) = pos (suc a / suc b)

-- a divisor other than 0
abbrev pub divisor : ℤ → Checked ℤ
divisor (pos zero) = Err (evaluation_error "zero_divisor")
divisor y = Ok y

-- how many bits a number may be shifted by
abbrev pub distance : ℤ → Checked ℕ
distance (negsuc k) = Err (evaluation_error "undefined")
distance (pos k) = do
  evaluation_error "undefined" if int_lt (pos 63) (pos k)
  Ok k

abbrev pub unary_result : UnaryOperation → ℤ → ℤ
unary_result unary.Negate x = neg_ℤ x
unary_result unary.BitNot x = int_bit_not w64 x
unary_result unary.Abs x = pos (unsigned_abs x)
unary_result unary.Sign x = int_signum x

abbrev pub binary_result : BinaryOperation → ℤ → ℤ → Checked ℤ
binary_result binary.Add x y = Ok (x +ℤ y)
binary_result binary.Subtract x y = Ok (x -ℤ y)
binary_result binary.Multiply x y = Ok (x *ℤ y)
binary_result binary.Quotient x y = do
  d ← divisor y
  Ok (int_div x d)
binary_result binary.FloorQuotient x y = do
  d ← divisor y
  Ok (floor_div x d)
binary_result binary.Modulus x y = do
  d ← divisor y
  Ok (x -ℤ (floor_div x d *ℤ d))
binary_result binary.Remainder x y = do
  d ← divisor y
  Ok (x -ℤ (int_div x d *ℤ d))
binary_result binary.BitAnd x y = Ok (int_bit_and w64 x y)
binary_result binary.BitOr x y = Ok (int_bit_or w64 x y)
binary_result binary.ShiftLeft x y = do
  k ← distance y
  Ok (x *ℤ pos (2 ^ k))
binary_result binary.ShiftRight x y = do
  k ← distance y
  Ok (floor_div x (pos (2 ^ k)))
binary_result binary.Min x y = Ok (int_min x y)
binary_result binary.Max x y = Ok (int_max x y)

-- ---- values, within 64 bits

-- the greatest and the least number of 64 bits
abbrev pub greatest : ℤ
greatest = pos 9223372036854775807

abbrev pub least : ℤ
least = negsuc 9223372036854775807

-- a result, where it is within 64 bits
abbrev pub bounded : ℤ → Checked ℤ
bounded z = do
  evaluation_error "int_overflow" if (int_lt z least || int_lt greatest z)
  Ok z

abbrev pub unary_value : UnaryOperation → ℤ → Checked ℤ
unary_value operation x = bounded (unary_result operation x)

abbrev pub binary_value : BinaryOperation → ℤ → ℤ → Checked ℤ
binary_value operation x y = do
  z ← binary_result operation x y
  bounded z

-- no number is what a name with so many arguments stands for
abbrev pub not_evaluable : Name → ℕ → Term
not_evaluable name count = type_error "evaluable" (indicator name count)

-- an operation of a name with so many arguments, where it has one
abbrev pub known : {A : Type 0} → Name → ℕ → Option A → Checked A
known name count None = Err (not_evaluable name count)
known name count (Some operation) = Ok operation

-- The value of a term, as it is seen under a substitution. The operation of a compound is looked
-- for before its arguments are evaluated, and these from the left.
unfoldable pub evaluated : Term → Checked ℤ
evaluated (Var v) = Err unbound
evaluated (Int z) = Ok z
evaluated (Atom name) = Err (not_evaluable name 0)
evaluated (Comp name (More x NoMore)) = do
  operation ← known name 1 (operations_of name).0
  a ← evaluated x
  unary_value operation a
evaluated (Comp name (More x (More y NoMore))) = do
  operation ← known name 2 (operations_of name).1
  a ← evaluated x
  b ← evaluated y
  binary_value operation a b
evaluated (Comp name ts) = Err (not_evaluable name (count_of ts))

abbrev pub value : Subst → Term → Checked ℤ
value s t = evaluated (apply s t)

-- the values of two terms compared by a test
abbrev pub compared : (ℤ → ℤ → Bool) → Subst → Term → Term → Checked Bool
compared test s x y = do
  a ← value s x
  b ← value s y
  Ok (test a b)
