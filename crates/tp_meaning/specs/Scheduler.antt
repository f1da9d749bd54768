-- The scheduler, which acts where no process runs.
use Rattle.std.specs.Prelude.{ℕ, suc, Bool, true, false, ◌&&◌, List, [], ◌∷◌, Option, Some, None, ℤ}
use Rattle.std.specs.Prelude.{int_lt, slice_get, if◌then◌else◌}
use Rattle.std.specs.List.{list_any}
use Rattle.tp_meaning.specs.World.{World, Process, Slot, At, Inf, Scheduled, Running, AwaitsMail}
use Rattle.tp_meaning.specs.World.{Ended, Parked, Start, with_process, with_status, with_event}
use Rattle.tp_meaning.specs.World.{stamped}
use Rattle.tp_meaning.specs.Search.{Deadlock, Late, Success, Dead}
use Rattle.tp_meaning.specs.Turn.{Gives, one}

-- a process that isn't ended
abbrev pub is_live : Process → Bool
is_live q =
    elim (q.status) [
      | Scheduled ↦ true
      | Running ↦ true
      | AwaitsMail ↦ true
      | Ended ↦ false
      | Parked m ↦ true
    ]

abbrev pub is_marked : Process → Bool
is_marked q =
    elim (q.status) [
      | Scheduled ↦ false
      | Running ↦ false
      | AwaitsMail ↦ false
      | Ended ↦ false
      | Parked m ↦ m
    ]

-- a live process whose end time is below a time
abbrev pub is_late : ℤ → Process → Bool
is_late t q = is_live q && elim (q.limit) [ Inf ↦ false | At e ↦ int_lt e t ]

-- the first process that is marked
abbrev pub first_marked : List Process → Option ℕ
first_marked [] = None
first_marked (q ∷ qs) =
    if is_marked q then Some 0 else elim (first_marked qs) [ None ↦ None | Some p ↦ Some (suc p) ]

-- the world in which a process runs
abbrev pub with_running : ℕ → World → World
with_running p w = record (with_status p Running w) { running = Some p }

-- a process that hadn't started has now
abbrev pub with_start : ℕ → Option Process → World → World
with_start p None w = w
with_start p (Some q) w =
    if q.started then w
    else with_event p Start (with_process p (λ q. record q { started = true }) w)

-- the process of the first entry goes on
abbrev pub entered : World → Slot → List Slot → World
entered w e es =
    with_start e.process (slice_get w.processes e.process)
    (with_running e.process (record (stamped w) { clock = e.time; calendar = es }))

-- what the calendar gives, where no process is marked
abbrev pub by_calendar : World → List Slot → Gives
by_calendar w [] = if list_any is_live w.processes then Dead Deadlock else Success
by_calendar w (e ∷ es) =
    if list_any (is_late e.time) w.processes then Dead Late else one (entered w e es)

-- the first rule that applies
abbrev pub choose : World → Gives
choose w =
    elim (first_marked w.processes) [
      | None ↦ by_calendar w w.calendar
      | Some p ↦ one (with_running p (stamped w))
    ]
