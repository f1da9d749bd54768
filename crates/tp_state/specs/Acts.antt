-- What acts make of the contents of a world.
use Rattle.std.specs.Prelude.{◌≡◌, ℕ, List, [], ◌∷◌, ◌++◌, length, map, Option, Some, None, Bool}
use Rattle.std.specs.Prelude.{true, false, slice_set, zero, suc, ◌+◌, ℤ, int_lt, ◌&&◌}
use Rattle.std.specs.Prelude.{if◌then◌else◌}
use Rattle.tp_terms.specs.declared.Limit.{Limit}
use Rattle.tp_terms.specs.declared.Limit.TheVariants.{At, Inf}
use Rattle.tp_terms.specs.declared.ProcStatus.{ProcStatus}
use Rattle.tp_terms.specs.declared.ProcStatus.TheVariants.{Scheduled, Running, Parked, AwaitsMail}
use Rattle.tp_terms.specs.declared.ProcStatus.TheVariants.{Ended}
use Rattle.tp_terms.specs.declared.cells.AtomId.{AtomId}
use Rattle.tp_terms.specs.declared.cells.Ref.{Ref}
use Rattle.tp_terms.specs.declared.world.ItemId.{ItemId}
use Rattle.tp_terms.specs.declared.world.Proc.{Proc}
use Rattle.tp_terms.specs.declared.world.Slot.{Slot}
use Rattle.tp_terms.specs.declared.world.EventKind.{EventKind}
use Rattle.tp_terms.specs.declared.world.EventKind.TheVariants as event
use Rattle.tp_store.specs.Contents.{Contents}
use Rattle.tp_control.specs.declared.frames.Item.{Item}
use Rattle.tp_control.specs.declared.frames.Item.TheVariants.{Goal}
use Rattle.tp_control.specs.Lists.{items_at}
use Rattle.tp_procs.specs.Processes.{is_live}
use Rattle.tp_calendar.specs.Order.{put_slot}
use Rattle.tp_mail.specs.Mail.{at_box}
use Rattle.std.specs.List.{remove}
use Rattle.tp_state.specs.Plain.{Plain}

-- the running process has other items
abbrev pub resting : Option ItemId → Plain → Plain
resting rest p = record p { items = rest }

-- the running process has an item more, in front of its others
abbrev pub pushed : Item → Plain → Plain
pushed item p = record p {
  frames = p.frames ++ (item ∷ items_at p.frames p.items) ∷ [];
  items = Some (record { at = length p.frames });
}

-- the running process has the body of a clause more, where there is one
abbrev pub bodied : Option Ref → ℕ → Plain → Plain
bodied None barrier p = p
bodied (Some goal) barrier p = pushed (Goal goal barrier) p

-- an event that a process makes now
abbrev pub noted : ℕ → EventKind → Plain → Plain
noted pid kind p = record p {
  events = p.events ++ record { time = p.clock; pid = pid; kind = kind } ∷ [];
}

-- a process has become this one
abbrev pub changed : ℕ → Proc → Plain → Plain
changed pid q p = record p { procs = slice_set p.procs pid q }

-- a process, which is as given, runs
abbrev pub ran : ℕ → Proc → Plain → Plain
ran pid q p = record p {
  procs = slice_set p.procs pid (record q { status = Running });
  running = Some pid;
  items = q.items;
}

-- the running process, which is as given, goes on later, with this status
abbrev pub left : ℕ → Proc → ProcStatus → Plain → Plain
left pid q status p = record p {
  procs = slice_set p.procs pid (record q { status = status; items = p.items });
  running = None;
  items = None;
}

-- a process, which is as given, has started
abbrev pub begun : ℕ → Proc → Plain → Plain
begun pid q p = record p { procs = slice_set p.procs pid (record q { started = true }) }

-- a process, which is as given, has started now, where it hadn't
abbrev pub opened : ℕ → Proc → Plain → Plain
opened pid q p = if q.started then p else begun pid q (noted pid event.Start p)

-- the status of a parked process once it is marked, and each other status
abbrev pub marked_status : ProcStatus → ProcStatus
marked_status (Parked m) = Parked true
marked_status Scheduled = Scheduled
marked_status Running = Running
marked_status AwaitsMail = AwaitsMail
marked_status Ended = Ended

-- a process, marked where it is parked
abbrev pub mark : Proc → Proc
mark q = record q { status = marked_status q.status }

-- a process is parked and not marked
abbrev pub is_unmarked : Proc → Bool
is_unmarked q = elim (q.status) [
  | Parked m ↦ if m then false else true
  | Scheduled ↦ false
  | Running ↦ false
  | AwaitsMail ↦ false
  | Ended ↦ false
]

-- each parked process is marked, but for that of a number
abbrev pub mark_others : ℕ → List Proc → List Proc
mark_others n [] = []
mark_others zero (q ∷ qs) = q ∷ map mark qs
mark_others (suc n) (q ∷ qs) = mark q ∷ mark_others n qs

-- a time is that of the first entry of a calendar, and none where there is no entry
abbrev pub IsNextTime : List Slot → Option ℤ → Type 0
IsNextTime [] time = time ≡ None
IsNextTime (e ∷ es) time = time ≡ Some e.time

-- a process hasn't ended, and its end time is below a time
abbrev pub is_late : ℤ → Proc → Bool
is_late time q = is_live q && elim (q.end) [ Inf ↦ false | At end ↦ int_lt end time ]

-- a time, where there is one, is below another
abbrev pub is_before : ℤ → Option ℤ → Bool
is_before t None = false
is_before t (Some e) = int_lt e t

-- another store
abbrev pub with_store : Contents → Plain → Plain
with_store c p = record p { store = c }

-- ---- what processes do later, and their messages

-- an entry of the next insertion number
abbrev pub slot_at : ℕ → ℤ → Plain → Slot
slot_at pid time p = record { time = time; number = p.insertion; pid = pid }

-- a process goes on at a time
abbrev pub planned : ℕ → ℤ → Plain → Plain
planned pid time p = record p {
  slots = put_slot (slot_at pid time p) p.slots;
  insertion = p.insertion + 1;
}

-- a process more, with an empty box
abbrev pub added : Proc → Plain → Plain
added q p = record p { procs = p.procs ++ q ∷ []; boxes = p.boxes ++ [] ∷ [] }

-- a process that hasn't started, with these items
abbrev pub new_proc : AtomId → Limit → ItemId → Proc
new_proc name end items = record {
  name = name;
  end = end;
  started = false;
  status = Scheduled;
  items = Some items;
}

-- a process more, which hasn't started and has a goal to do
abbrev pub made : AtomId → Limit → Ref → Plain → Plain
made name end goal p =
    added (new_proc name end (record { at = length p.frames }))
    (record p { frames = p.frames ++ (Goal goal 0 ∷ []) ∷ [] })

-- a message at the end of a box
abbrev pub delivered : ℕ → Ref → Plain → Plain
delivered pid message p = record p { boxes = at_box pid (λ b. b ++ message ∷ []) p.boxes }

-- the message at a place taken out of a box
abbrev pub taken_out : ℕ → ℕ → Plain → Plain
taken_out pid place p = record p { boxes = at_box pid (λ b. remove b place) p.boxes }

-- the process awaits mail
abbrev pub awaits_mail : Proc → Bool
awaits_mail q = elim (q.status) [
  | AwaitsMail ↦ true
  | Scheduled ↦ false
  | Running ↦ false
  | Ended ↦ false
  | Parked m ↦ false
]

-- a process, which is as given, goes on now where it awaits mail
abbrev pub roused : ℕ → Proc → Plain → Plain
roused pid q p =
    if awaits_mail q then planned pid p.clock (changed pid (record q { status = Scheduled }) p)
    else p

-- a message was sent to a process, which is as given
abbrev pub posted : ℕ → Ref → ℕ → Proc → Plain → Plain
posted from message to q p =
    roused to q (noted from (event.Send message to) (delivered to message p))
