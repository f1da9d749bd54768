-- What takes acts back.
use Rattle.std.specs.Prelude.{◌≡◌, ℕ, ◌<◌, ◌≤◌, List, [], ◌∷◌, length, slice_get, slice_set, IfSome}
use Rattle.std.specs.List.{insert}
use Rattle.tp_terms.specs.declared.cells.Ref.{Ref}
use Rattle.tp_terms.specs.declared.world.Proc.{Proc}
use Rattle.tp_terms.specs.declared.world.Slot.{Slot}
use Rattle.tp_terms.specs.Binds.{Bindings}
use Rattle.tp_log.specs.declared.entry.Entry.{Entry}
use Rattle.tp_log.specs.declared.entry.Entry.TheVariants as entry
use Rattle.tp_log.specs.Front.{front}
use Rattle.tp_store.specs.Logged.{without_pair, IsBound}
use Rattle.tp_calendar.specs.Order.{put_slot, without_slot, IsFree}
use Rattle.tp_mail.specs.Mail.{at_box, box_of, room_of, AllAtMost}

-- The parts of a world that acts change otherwise than by adding to them: bindings, the newest
-- first, processes, entries of the calendar, and boxes.
pub record Parts : Type 0 where
  pub pairs : Bindings
  pub procs : List Proc
  pub slots : List Slot
  pub boxes : List (List Ref)

-- the parts before the act of an entry
abbrev pub undo : Entry → Parts → Parts
undo (entry.Bind v) p = record p { pairs = without_pair v p.pairs }
undo entry.Made p = record p { procs = front p.procs }
undo (entry.Set pid old) p = record p { procs = slice_set p.procs pid old }
undo (entry.Put s) p = record p { slots = without_slot s p.slots }
undo (entry.Took s) p = record p { slots = put_slot s p.slots }
undo entry.BoxMade p = record p { boxes = front p.boxes }
undo (entry.Sent pid) p = record p { boxes = at_box pid front p.boxes }
undo (entry.Received pid place message) p =
    record p { boxes = at_box pid (λ b. insert b place message) p.boxes }

-- the parts before the acts of a log, of which the last is taken back first
abbrev pub undone : List Entry → Parts → Parts
undone [] p = p
undone (e ∷ es) p = undo e (undone es p)

-- ---- memory that is kept

-- how many entries the calendar has memory for, and how many messages each box
pub record Rooms : Type 0 where
  pub slots : ℕ
  pub boxes : List ℕ

-- the memory after the act of an entry is taken back: a box goes with its memory
abbrev pub undo_rooms : Entry → Rooms → Rooms
undo_rooms (entry.Bind v) r = r
undo_rooms entry.Made r = r
undo_rooms (entry.Set pid old) r = r
undo_rooms (entry.Put s) r = r
undo_rooms (entry.Took s) r = r
undo_rooms entry.BoxMade r = record r { boxes = front r.boxes }
undo_rooms (entry.Sent pid) r = r
undo_rooms (entry.Received pid place message) r = r

-- the memory after the acts of a log are taken back
abbrev pub rooms_undone : List Entry → Rooms → Rooms
rooms_undone [] r = r
rooms_undone (e ∷ es) r = undo_rooms e (rooms_undone es r)

-- the second has at least as much memory for everything
pub record Covers (less more : Rooms) : Type 0 where
  pub slots : less.slots ≤ more.slots
  pub boxes : AllAtMost less.boxes more.boxes

-- ---- what can be taken back

-- the act of an entry can be taken back, without memory
abbrev pub Allows : Entry → Parts → Rooms → Type 0
Allows (entry.Bind v) p r = IsBound p.pairs v
Allows entry.Made p r = Unit {0}
Allows (entry.Set pid old) p r =
    (pid < length p.procs) × IfSome (slice_get p.procs pid) (λ now. now.name ≡ old.name)
Allows (entry.Put s) p r = Unit {0}
Allows (entry.Took s) p r = IsFree s p.slots × (length p.slots < r.slots)
Allows entry.BoxMade p r = Unit {0}
Allows (entry.Sent pid) p r = pid < length p.boxes
Allows (entry.Received pid place message) p r =
    (pid < length p.boxes) × (place ≤ length (box_of p.boxes pid))
    × (length (box_of p.boxes pid) < room_of r.boxes pid)

-- each act of a log can be taken back, once those behind it are
abbrev pub CanUndo : List Entry → Parts → Rooms → Type 0
CanUndo [] p r = Unit {0}
CanUndo (e ∷ es) p r = Allows e (undone es p) (rooms_undone es r) × CanUndo es p r
