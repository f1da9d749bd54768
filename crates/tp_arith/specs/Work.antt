-- The value of a term by steps: what is next, and which operations wait for values.
use Rattle.std.specs.Prelude.{◌≡◌, ℕ, zero, suc, ◌+◌, ◌*◌, ◌<◌, ℤ, List, [], ◌∷◌, length, Option}
use Rattle.std.specs.Prelude.{None, option_map, Result, Ok, Err}
use Rattle.tp_terms.specs.Term.{Name, term_size}
use Rattle.tp_meaning.specs.Checks.{Checked, ◌>>=◌}
use Rattle.tp_meaning.specs.Arith.{operations_of, unary_value, binary_value, evaluated}
use Rattle.tp_meaning.specs.Heap.{Heap, seen}
use Rattle.tp_arith.specs.declared.evaluate.Operation.{Operation}
use Rattle.tp_arith.specs.declared.evaluate.Operation.TheVariants as operation
use Rattle.tp_arith.specs.declared.evaluate.Waiting.{Waiting}
use Rattle.tp_arith.specs.declared.evaluate.Waiting.TheVariants.{Unary, Left, Right}
use Rattle.tp_arith.specs.declared.evaluate.Next.{Next}
use Rattle.tp_arith.specs.declared.evaluate.Next.TheVariants.{Look, Give}
use Rattle.tp_arith.specs.declared.stop.Stop.{Stop}
use Rattle.tp_arith.specs.declared.stop.Stop.TheVariants.{Fault, NoMemory}
use Rattle.tp_arith.specs.Errors.{IsFault}

-- the operation that a name with so many arguments stands for
abbrev pub operation_in : Name → ℕ → Option Operation
operation_in name (suc zero) = option_map operation.Unary (operations_of name).0
operation_in name (suc (suc zero)) = option_map operation.Binary (operations_of name).1
operation_in name count = None

-- what an operation makes of the value that it waits for
abbrev pub resumed : Heap → Waiting → ℤ → Checked ℤ
resumed h (Unary operation) z = unary_value operation z
resumed h (Left operation right) z = do
  y ← evaluated (seen h right.at)
  binary_value operation z y
resumed h (Right operation left) z = binary_value operation left z

-- what all that wait make of a value, the newest first
abbrev pub finished : Heap → List Waiting → ℤ → Checked ℤ
finished h [] z = Ok z
finished h (w ∷ ws) z = do
  v ← resumed h w z
  finished h ws v

-- what comes of what is next
abbrev pub outcome : Heap → Next → List Waiting → Checked ℤ
outcome h (Look at) ws = do
  z ← evaluated (seen h at.at)
  finished h ws z
outcome h (Give z) ws = finished h ws z

-- all places are there
abbrev pub NextStands : Heap → Next → Type 0
NextStands h (Look at) = at.at < length h.cells
NextStands h (Give z) = Unit {0}

abbrev pub WaitingStands : Heap → Waiting → Type 0
WaitingStands h (Unary operation) = Unit {0}
WaitingStands h (Left operation right) = right.at < length h.cells
WaitingStands h (Right operation left) = Unit {0}

abbrev pub AreWaiting : Heap → List Waiting → Type 0
AreWaiting h [] = Unit {0}
AreWaiting h (w ∷ ws) = WaitingStands h w × AreWaiting h ws

-- how much is left to do
abbrev pub next_weight : Heap → Next → ℕ
next_weight h (Look at) = 3 * term_size (seen h at.at)
next_weight h (Give z) = 0

abbrev pub waiting_weight : Heap → Waiting → ℕ
waiting_weight h (Unary operation) = 1
waiting_weight h (Left operation right) = 2 + 3 * term_size (seen h right.at)
waiting_weight h (Right operation left) = 1

abbrev pub sum_weight : Heap → List Waiting → ℕ
sum_weight h [] = 0
sum_weight h (w ∷ ws) = waiting_weight h w + sum_weight h ws

abbrev pub all_weight : Heap → Next → List Waiting → ℕ
all_weight h next ws = next_weight h next + sum_weight h ws

-- the same comes of what is next now, and less is left to do
pub record GoesOn (h : Heap) (c : Checked ℤ) (weight : ℕ) (next : Next)
    (ws : List Waiting) : Type 0 where
  pub same : outcome h next ws ≡ c
  pub next_stands : NextStands h next
  pub waiting_stand : AreWaiting h ws
  pub less : all_weight h next ws < weight

-- what a step comes to, where something came of what was next, and so much was left
abbrev pub StepTo : Heap → Checked ℤ → ℕ → Result Next Stop → List Waiting → Type 0
StepTo h c weight (Ok next) ws = GoesOn h c weight next ws
StepTo h c weight (Err (Fault fault)) ws = IsFault h.names c fault
StepTo h c weight (Err NoMemory) ws = Unit {0}

-- the value or the fault; memory may be refused
abbrev pub Gives : Heap → Checked ℤ → Result ℤ Stop → Type 0
Gives h c (Ok z) = c ≡ Ok z
Gives h c (Err (Fault fault)) = IsFault h.names c fault
Gives h c (Err NoMemory) = Unit {0}
