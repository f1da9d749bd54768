-- Going on and going back in one state.
use Rattle.std.specs.Prelude.{◌≡◌, ◌≤◌, List, ◌++◌, length, take, drop}
use Rattle.tp_control.specs.declared.choices.Marks.{Marks}
use Rattle.tp_terms.specs.declared.cells.Cell.{Cell}
use Rattle.tp_terms.specs.Binds.{Bindings}
use Rattle.tp_log.specs.declared.entry.Entry.{Entry}
use Rattle.tp_store.specs.Contents.{Contents}
use Rattle.tp_store.specs.Logged.{bindings_logged}
use Rattle.tp_state.specs.Plain.{Plain}
use Rattle.tp_state.specs.Undo.{Parts, Rooms, undone, CanUndo}

-- what a state holds: the contents of its world, the log of acts, and the memory that is kept
pub record Held : Type 0 where
  pub plain : Plain
  pub log : List Entry
  pub rooms : Rooms

-- the parts of contents that the log takes back
abbrev pub parts_of : Plain → Parts
parts_of p = record { pairs = p.store.pairs; procs = p.procs; slots = p.slots; boxes = p.boxes }

-- contents with other such parts
abbrev pub with_parts : Parts → Plain → Plain
with_parts parts p = record {
  store = record { cells = p.store.cells; pairs = parts.pairs; vars = p.store.vars };
  frames = p.frames;
  procs = parts.procs;
  slots = parts.slots;
  boxes = parts.boxes;
  events = p.events;
  clock = p.clock;
  insertion = p.insertion;
  running = p.running;
  items = p.items;
}

-- the whole log can be taken back
abbrev pub IsSafe : Held → Type 0
IsSafe h = CanUndo h.log (parts_of h.plain) h.rooms

-- ---- marks

-- how much there is now of each part, and the numbers of now
abbrev pub marks_of : Held → Marks
marks_of h = record {
  store = record { cells = length h.plain.store.cells; vars = h.plain.store.vars };
  items = length h.plain.frames;
  events = length h.plain.events;
  log = length h.log;
  clock = h.plain.clock;
  insertion = h.plain.insertion;
  running = h.plain.running;
  first = h.plain.items;
}

-- there is as much of each part as the marks say
pub record Within (m : Marks) (h : Held) : Type 0 where
  pub cells : m.store.cells ≤ length h.plain.store.cells
  pub vars : m.store.vars ≤ h.plain.store.vars
  pub items : m.items ≤ length h.plain.frames
  pub events : m.events ≤ length h.plain.events
  pub log : m.log ≤ length h.log

-- the second marks were made no later than the first
pub record Under (m n : Marks) : Type 0 where
  pub cells : n.store.cells ≤ m.store.cells
  pub vars : n.store.vars ≤ m.store.vars
  pub items : n.items ≤ m.items
  pub events : n.events ≤ m.events
  pub log : n.log ≤ m.log

-- Contents whose parts are these, of which what was added since the marks is cut off, and whose
-- numbers are those of the marks.
abbrev pub restored : Plain → Parts → Marks → Plain
restored p parts m = record {
  store = record {
    cells = take m.store.cells p.store.cells;
    pairs = parts.pairs;
    vars = m.store.vars;
  };
  frames = take m.items p.frames;
  procs = parts.procs;
  slots = parts.slots;
  boxes = parts.boxes;
  events = take m.events p.events;
  clock = m.clock;
  insertion = m.insertion;
  running = m.running;
  items = m.first;
}

-- The contents at marks: what was logged since is taken back, what was added since is cut off, and
-- the numbers are those of the marks.
abbrev pub rewound : Held → Marks → Plain
rewound h m = restored h.plain (undone (drop m.log h.log) (parts_of h.plain)) m

-- ---- going on

-- a list with further elements
abbrev pub Prolongs : {A : Type 0} → List A → List A → Type 0
Prolongs {A = A} old new = (more : List A) × (new ≡ old ++ more)

-- Acts lead from the old to the new: their entries take back what they changed, and all else was
-- added.
pub record Follows (old new : Held) : Type 0 where
  pub entries : List Entry
  pub log : new.log ≡ old.log ++ entries
  pub back : undone entries (parts_of new.plain) ≡ parts_of old.plain
  pub cells : Prolongs old.plain.store.cells new.plain.store.cells
  pub vars : old.plain.store.vars ≤ new.plain.store.vars
  pub frames : Prolongs old.plain.frames new.plain.frames
  pub events : Prolongs old.plain.events new.plain.events
  pub safe : IsSafe old → IsSafe new

-- A store has further cells, variables and bindings, and the log the entries of the bindings.
pub record StoreGrows (old new : Contents) (before after : List Entry) : Type 0 where
  pub more_cells : List Cell
  pub more : Bindings
  pub cells : new.cells ≡ old.cells ++ more_cells
  pub pairs : new.pairs ≡ more ++ old.pairs
  pub vars : old.vars ≤ new.vars
  pub log : after ≡ before ++ bindings_logged more
