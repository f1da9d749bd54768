-- What a meter counts over the events of a history, in their order.
use Rattle.std.specs.Prelude.{ℕ, ◌+◌, unsigned_abs, ◌-◌, ◌^◌, List, [], ◌∷◌, take, fold, min, max}
use Rattle.std.specs.Prelude.{nat_eq, nat_lt, if◌then◌else◌, int_lt, pos, ℤ}
use Rattle.tp_meters.specs.declared.MeterKind.{MeterKind}
use Rattle.tp_meters.specs.declared.MeterKind.TheVariants.{Events, Time, Mail, Procs}
use Rattle.tp_meters.specs.declared.EventView.{EventView}

-- a sum stops at the greatest number
abbrev pub summed : ℕ → ℕ → ℕ
summed n m = min (n + m) (2 ^ 64 - 1)

-- a count of the events of one kind, after one more event
abbrev pub counted : ℕ → EventView → ℕ → ℕ
counted kind event n = if nat_eq event.kind kind then summed n 1 else n

-- a time or a duration as a number: a negative one counts as 0
abbrev pub natural : ℤ → ℕ
natural z = if int_lt z (pos 0) then 0 else unsigned_abs z

-- the time of the last event, after one more event
abbrev pub last_time : EventView → ℕ → ℕ
last_time event n = if nat_lt 6 event.kind then n else natural event.time

-- the duration that an event holds for: only a Hold has one
abbrev pub held : EventView → ℕ
held event = if nat_eq event.kind 2 then natural event.amount else 0

-- all numbers at their start. Those of Procs are the count of New, the most that starts exceeded
-- ends by, the count of Start and the count of End
abbrev pub zeros : MeterKind → List ℕ
zeros Events = 0 ∷ 0 ∷ 0 ∷ 0 ∷ 0 ∷ 0 ∷ 0 ∷ []
zeros Time = 0 ∷ 0 ∷ 0 ∷ []
zeros Mail = 0 ∷ 0 ∷ 0 ∷ []
zeros Procs = 0 ∷ 0 ∷ 0 ∷ 0 ∷ []

-- the numbers of a kind after one more event
abbrev pub meter_next : MeterKind → List ℕ → EventView → List ℕ
meter_next Events (a ∷ b ∷ c ∷ d ∷ f ∷ g ∷ h ∷ ns) e =
    counted 0 e a ∷ counted 1 e b ∷ counted 2 e c ∷ counted 3 e d ∷ counted 4 e f
    ∷ counted 5 e g ∷ counted 6 e h ∷ ns
meter_next Time (last ∷ sum ∷ longest ∷ ns) e =
    last_time e last ∷ summed sum (held e) ∷ max longest (held e) ∷ ns
meter_next Mail (sends ∷ takes ∷ most ∷ ns) e =
    counted 3 e sends ∷ counted 4 e takes
    ∷ max most (counted 3 e sends - counted 4 e takes) ∷ ns
meter_next Procs (news ∷ most ∷ starts ∷ ends ∷ ns) e =
    counted 0 e news ∷ max most (counted 1 e starts - counted 6 e ends)
    ∷ counted 1 e starts ∷ counted 6 e ends ∷ ns
meter_next _ state e = state

-- the numbers of a kind over events in their order
abbrev pub meter_fold : MeterKind → List EventView → List ℕ
meter_fold kind events = fold (meter_next kind) (zeros kind) events

-- the numbers that a meter tells: one of Procs keeps its last two to itself
abbrev pub told : MeterKind → List ℕ → List ℕ
told Procs state = take 2 state
told _ state = state
