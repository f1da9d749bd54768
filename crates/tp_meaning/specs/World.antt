-- A world: everything that a step reads and changes, in one value.
use Rattle.std.specs.Prelude.{ℕ, zero, suc, ◌+◌, Bool, true, false, ◌&&◌, ◌||◌, nat_lt, List, []}
use Rattle.std.specs.Prelude.{◌∷◌, ◌++◌, map, Option, Some, None, ℤ, pos, int_lt, codes, slice_get}
use Rattle.std.specs.Prelude.{if◌then◌else◌}
use Rattle.std.specs.Ordering.{int_eq}
pub use Rattle.tp_terms.specs.declared.Limit.{Limit}
pub use Rattle.tp_terms.specs.declared.Limit.TheVariants.{At, Inf}
pub use Rattle.tp_terms.specs.declared.ProcStatus.{ProcStatus}
pub use Rattle.tp_terms.specs.declared.ProcStatus.TheVariants.{Scheduled, Running, AwaitsMail}
pub use Rattle.tp_terms.specs.declared.ProcStatus.TheVariants.{Ended, Parked}
use Rattle.tp_terms.specs.Term.{Name, Term, names_eq}
use Rattle.tp_meaning.specs.Subst.{Subst, apply}
use Rattle.tp_meaning.specs.Body.{body}

-- What a process does next: a goal with its barrier stamp, a commit to a stamp, or another try of a
-- condition that it waits for.
pub data Item : Type 0 where
  Goal : (goal : Term) (barrier : ℕ) → Item
  Commit : (stamp : ℕ) → Item
  Retry : (goal : Term) → Item

-- a process with its end time
pub record Process : Type 0 where
  pub name : List ℕ
  pub limit : Limit
  pub started : Bool
  pub status : ProcStatus
  pub items : List Item

-- an entry of the calendar
pub record Slot : Type 0 where
  pub time : ℤ
  pub number : ℕ
  pub process : ℕ

-- what a process did; an end time of `Inf` is no end, and a message goes to a process by its number
pub data EventKind : Type 0 where
  New : (name : List ℕ) (start : ℤ) (limit : Limit) → EventKind
  Start End : EventKind
  Hold : (duration : ℤ) → EventKind
  Send : (message : Term) (to : ℕ) → EventKind
  Take Note : Term → EventKind

-- an event with its time and the process that did it
pub record Event : Type 0 where
  pub time : ℤ
  pub process : ℕ
  pub kind : EventKind

-- The parts of a world. Its terms are held under its substitution, a process's number is its place
-- in the list, and there is one box of messages for each process.
pub record World : Type 0 where
  pub subst : Subst
  pub next : ℕ
  pub stamp : ℕ
  pub clock : ℤ
  pub insertion : ℕ
  pub running : Option ℕ
  pub processes : List Process
  pub calendar : List Slot
  pub boxes : List (List Term)
  pub history : List Event

-- ---- terms changed, each in the same way

abbrev pub item_by : (Term → Term) → Item → Item
item_by f (Goal g b) = Goal (f g) b
item_by f (Commit c) = Commit c
item_by f (Retry g) = Retry (f g)

abbrev pub kind_by : (Term → Term) → EventKind → EventKind
kind_by f (New n t l) = New n t l
kind_by f Start = Start
kind_by f End = End
kind_by f (Hold d) = Hold d
kind_by f (Send m p) = Send (f m) p
kind_by f (Take m) = Take (f m)
kind_by f (Note m) = Note (f m)

abbrev pub event_by : (Term → Term) → Event → Event
event_by f e = record e { kind = kind_by f e.kind }

abbrev pub process_by : (Term → Term) → Process → Process
process_by f p = record p { items = map (item_by f) p.items }

-- terms seen under a substitution
abbrev pub item_under : Subst → Item → Item
item_under s = item_by (apply s)

abbrev pub kind_under : Subst → EventKind → EventKind
kind_under s = kind_by (apply s)

abbrev pub event_under : Subst → Event → Event
event_under s = event_by (apply s)

abbrev pub process_under : Subst → Process → Process
process_under s = process_by (apply s)

-- a world whose substitution was extended
abbrev pub world_under : Subst → World → World
world_under u w = record w {
  subst = u;
  processes = map (process_under u) w.processes;
  boxes = map (map (apply u)) w.boxes;
  history = map (event_under u) w.history;
}

-- ---- parts of a world changed

-- a list with one element changed
abbrev pub at_place : {A : Type 0} → ℕ → (A → A) → List A → List A
at_place n f [] = []
at_place zero f (x ∷ xs) = f x ∷ xs
at_place (suc n) f (x ∷ xs) = x ∷ at_place n f xs

-- every world that a step gives has the next stamp
abbrev pub stamped : World → World
stamped w = record w { stamp = w.stamp + 1 }

abbrev pub with_process : ℕ → (Process → Process) → World → World
with_process p f w = record w { processes = at_place p f w.processes }

abbrev pub with_items : ℕ → List Item → World → World
with_items p items w = with_process p (λ q. record q { items = items }) w

abbrev pub with_status : ℕ → ProcStatus → World → World
with_status p s w = with_process p (λ q. record q { status = s }) w

abbrev pub with_box : ℕ → (List Term → List Term) → World → World
with_box p f w = record w { boxes = at_place p f w.boxes }

-- an event added that a process makes now
abbrev pub with_event : ℕ → EventKind → World → World
with_event p k w =
    record w { history = w.history ++ record { time = w.clock; process = p; kind = k } ∷ [] }

-- entries stand in order of time, then number
abbrev pub goes_before : Slot → Slot → Bool
goes_before e f = int_lt e.time f.time || (int_eq e.time f.time && nat_lt e.number f.number)

abbrev pub put_slot : Slot → List Slot → List Slot
put_slot e [] = e ∷ []
put_slot e (f ∷ fs) = if goes_before e f then e ∷ f ∷ fs else f ∷ put_slot e fs

-- an entry added for a process
abbrev pub with_slot : ℕ → ℤ → World → World
with_slot p time w = record w {
  insertion = w.insertion + 1;
  calendar = put_slot (record { time = time; number = w.insertion; process = p }) w.calendar;
}

-- ---- letting go

abbrev pub mark : Process → Process
mark q = elim
    (q.status) [
      | Scheduled ↦ q
      | Running ↦ q
      | AwaitsMail ↦ q
      | Ended ↦ q
      | Parked m ↦ record q { status = Parked true }
    ]

-- each process that is parked is marked, but for one
abbrev pub mark_others : ℕ → List Process → List Process
mark_others n [] = []
mark_others zero (q ∷ qs) = q ∷ map mark qs
mark_others (suc n) (q ∷ qs) = mark q ∷ mark_others n qs

abbrev pub let_go : ℕ → World → World
let_go p w = record w { running = None; processes = mark_others p w.processes }

-- ---- processes by their names

abbrev pub number_of : Name → List Process → Option ℕ
number_of n [] = None
number_of n (q ∷ qs) =
    if names_eq n q.name then Some 0
    else elim (number_of n qs) [ None ↦ None | Some p ↦ Some (suc p) ]

abbrev pub name_at : List Process → ℕ → Name
name_at qs p = elim (slice_get qs p) [ None ↦ [] | Some q ↦ q.name ]

abbrev pub status_at : List Process → ℕ → ProcStatus
status_at qs p = elim (slice_get qs p) [ None ↦ Ended | Some q ↦ q.status ]

abbrev pub items_at : List Process → ℕ → List Item
items_at qs p = elim (slice_get qs p) [ None ↦ [] | Some q ↦ q.items ]

abbrev pub box_at : List (List Term) → ℕ → List Term
box_at bs p = elim (slice_get bs p) [ None ↦ [] | Some b ↦ b ]

-- ---- the start

-- the process that every world begins with
abbrev pub main : Process
main = record { name = codes "main"; limit = Inf; started = false; status = Scheduled; items = [] }

-- the first item of a goal, which has a body
abbrev pub first_items : Term → List Item
first_items goal = elim (body goal) [ None ↦ [] | Some b ↦ Goal b 0 ∷ [] ]

-- the world at the start of a goal with so many variables
abbrev pub start : Term → ℕ → World
start goal vars = record {
  subst = [];
  next = vars;
  stamp = 0;
  clock = pos 0;
  insertion = 1;
  running = None;
  processes = record main { items = first_items goal } ∷ [];
  calendar = record { time = pos 0; number = 0; process = 0 } ∷ [];
  boxes = [] ∷ [];
  history = [];
}
