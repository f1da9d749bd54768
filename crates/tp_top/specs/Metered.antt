-- What meters count of a history, and the lines that are printed of it.
use Rattle.std.specs.Prelude.{◌≡◌, ℕ, ◌≤◌, Bool, true, false, List, [], ◌++◌, length, map, flat_map}
use Rattle.std.specs.Prelude.{Option, Some, None, Result, Ok, Err, codes, decimal, ℤ, pos}
use Rattle.std.specs.Prelude.{if◌then◌else◌}
use Rattle.tp_meaning.specs.World.{Event, EventKind, New, Start, Hold, Send, Take, Note, End}
use Rattle.tp_meters.specs.declared.MeterKind.{MeterKind}
use Rattle.tp_meters.specs.declared.MeterKind.TheVariants as meter
use Rattle.tp_meters.specs.declared.EventView.{EventView}
use Rattle.tp_meters.specs.Meters.{meter_fold, told}
use Rattle.tp_report.specs.Report.{line}

-- ---- events

-- the number of an event's kind
abbrev pub kind_number : EventKind → ℕ
kind_number (New name start end) = 0
kind_number Start = 1
kind_number (Hold duration) = 2
kind_number (Send message to) = 3
kind_number (Take message) = 4
kind_number (Note term) = 5
kind_number End = 6

-- the duration of a Hold, and else 0
abbrev pub amount_of : EventKind → ℤ
amount_of (Hold duration) = duration
amount_of _ = pos 0

-- an event as a meter sees it
abbrev pub metered : Event → EventView
metered e = record { time = e.time; kind = kind_number e.kind; amount = amount_of e.kind }

-- ---- the numbers of meters

-- the numbers of a meter of this kind over a history
abbrev pub counted : List Event → MeterKind → List ℕ
counted history kind = meter_fold kind (map metered history)

-- the numbers of meters of these kinds over the last history that was printed; where none was, they
-- stay
abbrev pub numbers_over : List MeterKind → Option (List Event) → List (List ℕ) → List (List ℕ)
numbers_over kinds None before = before
numbers_over kinds (Some history) before = map (counted history) kinds

-- the numbers of meters of these kinds before and after; where meters aren't printed, they stay
abbrev pub HasCounted :
    Bool → List MeterKind → Option (List Event) → List (List ℕ) → List (List ℕ) → Type 0
HasCounted false kinds last before after = after ≡ before
HasCounted true kinds last before after = after ≡ numbers_over kinds last before

-- the same after a call that may have met a fault; then nothing is said of meters that are printed
abbrev pub MayCount : {T E : Type 0} → Result T E →
    Bool → List MeterKind → Option (List Event) → List (List ℕ) → List (List ℕ) → Type 0
MayCount (Err fault) true kinds last before after = Unit {0}
MayCount (Err fault) false kinds last before after = after ≡ before
MayCount (Ok x) printed kinds last before after = HasCounted printed kinds last before after

-- ---- lines

-- the words at the head of a meter's line
abbrev pub head_of : MeterKind → List ℕ
head_of meter.Events = codes "meter events"
head_of meter.Time = codes "meter time"
head_of meter.Mail = codes "meter mail"
head_of meter.Procs = codes "meter procs"

-- a number, with a space before it
abbrev pub number_text : ℕ → List ℕ
number_text n = codes " " ++ decimal n

-- the line of a meter of this kind with these numbers
abbrev pub meter_line : MeterKind → List ℕ → List ℕ
meter_line kind state = line (head_of kind ++ flat_map number_text (told kind state))

-- the lines of meters of these kinds over a history, in their order
abbrev pub meter_lines : List MeterKind → List Event → List ℕ
meter_lines kinds history = flat_map (λ kind. meter_line kind (counted history kind)) kinds

-- the kinds whose lines are printed: all where meters are asked for, and else none
abbrev pub printed_kinds : Bool → List MeterKind → List MeterKind
printed_kinds meters kinds = if meters then kinds else []

-- no kind tells more numbers than Events, which has seven
abbrev pub TellsFew : MeterKind → List ℕ → Type 0
TellsFew kind state = length (told kind state) ≤ 7
