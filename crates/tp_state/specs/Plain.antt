-- The plain contents of a world, and the world that they stand for.
use Rattle.std.specs.Prelude.{ℕ, List, map, Option, Some, None, ℤ}
use Rattle.tp_terms.specs.declared.cells.Ref.{Ref}
use Rattle.tp_terms.specs.declared.world.ItemId.{ItemId}
use Rattle.tp_terms.specs.declared.world.Proc.{Proc}
use Rattle.tp_terms.specs.declared.world.Slot.{Slot}
use Rattle.tp_terms.specs.declared.world.Event.{Event}
use Rattle.tp_terms.specs.declared.world.EventKind.{EventKind}
use Rattle.tp_terms.specs.declared.world.EventKind.TheVariants as kind
use Rattle.tp_terms.specs.Term.{Name, Term}
use Rattle.tp_terms.specs.Shown.{name_at}
use Rattle.tp_meaning.specs.World as world
use Rattle.tp_meaning.specs.World.{World, at_place}
use Rattle.tp_store.specs.Contents.{Contents, subst_of, seen}
use Rattle.tp_control.specs.declared.frames.Item.{Item}
use Rattle.tp_control.specs.declared.frames.Item.TheVariants as item
use Rattle.tp_control.specs.Lists.{items_at}

-- Terms and bindings, lists of items, processes, entries of the calendar, boxes of messages,
-- events, the clock, the next insertion number, and the running process with the place of its
-- items. While a process runs, its items stand there alone, and not in the list of processes.
pub record Plain : Type 0 where
  pub store : Contents
  pub frames : List (List Item)
  pub procs : List Proc
  pub slots : List Slot
  pub boxes : List (List Ref)
  pub events : List Event
  pub clock : ℤ
  pub insertion : ℕ
  pub running : Option ℕ
  pub items : Option ItemId

-- the item that an item of the contents stands for, its goal as the bindings show it
abbrev pub item_of : List Name → Contents → Item → world.Item
item_of names c (item.Goal goal barrier) = world.Goal (seen names c goal.at) barrier
item_of names c (item.Commit stamp) = world.Commit stamp
item_of names c (item.Retry goal) = world.Retry (seen names c goal.at)

-- the items of a place, from the first on
abbrev pub items_of : List Name → Plain → Option ItemId → List world.Item
items_of names p place = map (item_of names p.store) (items_at p.frames place)

-- the process that a process of the contents stands for
abbrev pub process_of : List Name → Plain → Proc → world.Process
process_of names p q = record {
  name = name_at names q.name.at;
  limit = q.end;
  started = q.started;
  status = q.status;
  items = items_of names p q.items;
}

-- the running process has these items
abbrev pub with_running : Option ℕ → List world.Item → List world.Process → List world.Process
with_running None is ps = ps
with_running (Some r) is ps = at_place r (λ (q : world.Process). record q { items = is }) ps

-- all processes, each with its items
abbrev pub processes_of : List Name → Plain → List world.Process
processes_of names p =
    with_running p.running (items_of names p p.items) (map (process_of names p) p.procs)

-- an entry of the calendar
abbrev pub slot_of : Slot → world.Slot
slot_of s = record { time = s.time; number = s.number; process = s.pid }

-- the messages of a box, as the bindings show them
abbrev pub box_of : List Name → Contents → List Ref → List Term
box_of names c = map (λ r. seen names c r.at)

-- what happened, its terms as the bindings show them
abbrev pub kind_of : List Name → Contents → EventKind → world.EventKind
kind_of names c (kind.New name start end) = world.New (name_at names name.at) start end
kind_of names c kind.Start = world.Start
kind_of names c (kind.Hold duration) = world.Hold duration
kind_of names c (kind.Send message to) = world.Send (seen names c message.at) to
kind_of names c (kind.Take message) = world.Take (seen names c message.at)
kind_of names c (kind.Note term) = world.Note (seen names c term.at)
kind_of names c kind.End = world.End

-- an event of the history
abbrev pub event_of : List Name → Contents → Event → world.Event
event_of names c e = record { time = e.time; process = e.pid; kind = kind_of names c e.kind }

-- the world of a stamp that contents stand for
abbrev pub world_of : List Name → Plain → ℕ → World
world_of names p stamp = record {
  subst = subst_of names p.store;
  next = p.store.vars;
  stamp = stamp;
  clock = p.clock;
  insertion = p.insertion;
  running = p.running;
  processes = processes_of names p;
  calendar = map slot_of p.slots;
  boxes = map (box_of names p.store) p.boxes;
  history = map (event_of names p.store) p.events;
}
