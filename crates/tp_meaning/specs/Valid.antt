-- What holds of every world that a search comes to.
use Rattle.std.specs.Prelude.{◌≡◌, ℕ, ◌+◌, ◌<◌, ◌≤◌, Bool, true, false, nat_eq, List, [], ◌∷◌, map}
use Rattle.std.specs.Prelude.{length, Option, Some, None, ℤ, pos, int_le, IfSome, if◌then◌else◌}
use Rattle.std.specs.List.{AllByRecursion}
use Rattle.tp_terms.specs.Term.{Name, Term, Terms, Var, Int, Atom, Comp, NoMore, More, names_eq}
use Rattle.tp_meaning.specs.Subst.{IsSubst}
use Rattle.tp_meaning.specs.World.{World, Process, ProcStatus, Scheduled, Running, AwaitsMail}
use Rattle.tp_meaning.specs.World.{Ended, Parked, Item, Goal, Commit, Retry, Slot, goes_before}
use Rattle.tp_meaning.specs.World.{Event, EventKind, New, Start, End, Hold, Send, Take, Note}
use Rattle.tp_meaning.specs.World.{status_at}
use Rattle.tp_meaning.specs.Scheduler.{is_late}
use Rattle.tp_meaning.specs.Search.{Step, Success, Dead, Raise, Branch}
use Rattle.tp_meaning.specs.Search as search
use Rattle.tp_meaning.specs.Turn.{Gives}
use Rattle.tp_meaning.specs.Clauses.{Clause, Base}
use Rattle.tp_meaning.specs.Step.{step}

-- every variable of a term is below a number
abbrev mutual
  pub Below : ℕ → Term → Type 0
  Below n (Var v) = v < n
  Below n (Int z) = Unit {0}
  Below n (Atom a) = Unit {0}
  Below n (Comp f ts) = AllBelow n ts

  pub AllBelow : ℕ → Terms → Type 0
  AllBelow n NoMore = Unit {0}
  AllBelow n (More t ts) = Below n t × AllBelow n ts

-- variables below a number, and stamps of at most another
abbrev pub ItemFits : ℕ → ℕ → Item → Type 0
ItemFits n d (Goal g b) = Below n g × (b ≤ d)
ItemFits n d (Commit c) = c ≤ d
ItemFits n d (Retry g) = Below n g

abbrev pub ItemsFit : ℕ → ℕ → List Item → Type 0
ItemsFit n d = AllByRecursion (ItemFits n d)

-- an entry of one of so many processes, not before a time, with a number below another
abbrev pub SlotFits : ℕ → ℤ → ℕ → Slot → Type 0
SlotFits count clock insertion e =
    (e.process < count) × (int_le clock e.time ≡ true) × (e.number < insertion)

-- a slot that goes before others
abbrev pub IsFirst : Slot → List Slot → Type 0
IsFirst e = AllByRecursion (λ f. goes_before e f ≡ true)

abbrev pub InOrder : List Slot → Type 0
InOrder [] = Unit {0}
InOrder (e ∷ es) = IsFirst e es × InOrder es

-- how many entries a process has, and how many it is to have
abbrev pub slots_of : ℕ → List Slot → ℕ
slots_of p [] = 0
slots_of p (e ∷ es) = (if nat_eq p e.process then 1 else 0) + slots_of p es

abbrev pub due : ProcStatus → ℕ
due Scheduled = 1
due Running = 0
due AwaitsMail = 0
due Ended = 0
due (Parked m) = 0

abbrev pub is_running : ProcStatus → Bool
is_running Scheduled = false
is_running Running = true
is_running AwaitsMail = false
is_running Ended = false
is_running (Parked m) = false

abbrev pub is_at : Option ℕ → ℕ → Bool
is_at None p = false
is_at (Some r) p = nat_eq r p

-- how many processes run or await mail
abbrev pub waits_or_runs : ProcStatus → ℕ
waits_or_runs Scheduled = 0
waits_or_runs Running = 1
waits_or_runs AwaitsMail = 1
waits_or_runs Ended = 0
waits_or_runs (Parked m) = 0

abbrev pub busy : List Process → ℕ
busy [] = 0
busy (q ∷ qs) = waits_or_runs q.status + busy qs

-- an event's processes are of so many, its variables below a number
abbrev pub KindFits : ℕ → ℕ → EventKind → Type 0
KindFits count n (New name s l) = Unit {0}
KindFits count n Start = Unit {0}
KindFits count n End = Unit {0}
KindFits count n (Hold d) = Unit {0}
KindFits count n (Send m p) = Below n m × (p < count)
KindFits count n (Take m) = Below n m
KindFits count n (Note m) = Below n m

pub record EventFits (count n : ℕ) (clock : ℤ) (e : Event) : Type 0 where
  pub known : e.process < count
  pub fits : KindFits count n e.kind
  pub past : int_le e.time clock ≡ true

-- names that differ from one another
abbrev pub IsNew : Name → List Name → Type 0
IsNew n = AllByRecursion (λ m. names_eq n m ≡ false)

abbrev pub AreDistinct : List Name → Type 0
AreDistinct [] = Unit {0}
AreDistinct (n ∷ ns) = IsNew n ns × AreDistinct ns

pub record Valid (w : World) : Type 0 where
  -- names are distinct, and there is a box for each process
  pub distinct : AreDistinct (map (λ q. q.name) w.processes)
  pub box_each : length w.boxes ≡ length w.processes
  -- each entry is of a process in the list, not before the clock, and numbered below the next
  -- insertion number
  pub entries : AllByRecursion (SlotFits (length w.processes) w.clock w.insertion) w.calendar
  pub in_order : InOrder w.calendar
  -- a scheduled process has exactly one entry, and no other process has one
  pub placed : (p : ℕ) → slots_of p w.calendar ≡ due (status_at w.processes p)
  -- the running process, where there is one, is the one in the list with that status
  pub one_runs : (p : ℕ) → is_running (status_at w.processes p) ≡ is_at w.running p
  pub from_zero : int_le (pos 0) w.clock ≡ true
  -- no live process has an end time below the clock
  pub none_late : AllByRecursion (λ q. is_late w.clock q ≡ false) w.processes
  -- an event is of a process in the list, and not after the clock
  pub events : AllByRecursion (EventFits (length w.processes) w.next w.clock) w.history
  -- every variable is below the next one, and every stamp of an item at most the world's
  pub todo : AllByRecursion (λ q. ItemsFit w.next w.stamp q.items) w.processes
  pub mail : AllByRecursion (AllByRecursion (Below w.next)) w.boxes
  pub bindings : AllByRecursion (λ e. (e.0 < w.next) × Below w.next e.1) w.subst
  pub is_subst : IsSubst w.subst
  -- each process that runs or awaits mail leaves room for one more insertion
  pub insertions : w.insertion + busy w.processes ≤ w.stamp + 1

-- a valid world one step on: it has the next stamp, and no fewer variables
pub record Follows (w v : World) : Type 0 where
  pub valid : Valid v
  pub stamp : v.stamp ≡ w.stamp + 1
  pub next : w.next ≤ v.next

-- every world that a step of a world gives
abbrev pub EachFollows : World → Gives → Type 0
EachFollows w Success = Unit {0}
EachFollows w (Dead c) = Unit {0}
EachFollows w (Raise e) = Unit {0}
EachFollows w (search.Commit c v) = Follows w v
EachFollows w (Branch v more) = Follows w v × AllByRecursion (Follows w) more

-- a clause's variables are numbered below its number of variables
pub record ClauseFits (c : Clause) : Type 0 where
  pub head : AllBelow c.vars c.args
  pub body : IfSome c.body (Below c.vars)

-- The law of a step: each world of a step of a valid world is valid, with the stamp plus 1 and no
-- fewer variables.
abbrev pub StampsRise : Type 0
StampsRise =
    (base : Base) (w : World) → AllByRecursion ClauseFits base → Valid w →
    EachFollows w (step base w)
